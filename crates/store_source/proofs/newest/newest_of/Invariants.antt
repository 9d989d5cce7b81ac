use Rattle.std.proofs.Common.{◌≡◌, drop, nat_cmp}
use Rattle.std.specs.Cmp.Lexicographic.{slice_cmp}
use Rattle.std.specs.FinMap.{find}
use Rattle.store_source.proofs.newest.newest_of.Given as goal

abbrev pub invariant-changes : goal.invariant-changes
invariant-changes l = find (slice_cmp nat_cmp) l.id (drop l.change-index l.changes) ≡ find (slice_cmp nat_cmp) l.id l.changes
