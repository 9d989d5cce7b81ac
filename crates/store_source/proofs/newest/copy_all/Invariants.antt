use Rattle.std.proofs.Common.{◌≡◌, take}
use Rattle.store_source.proofs.newest.copy_all.Given as goal

abbrev pub invariant-changes : goal.invariant-changes
invariant-changes l = l.copy.items ≡ take l.change-index l.changes
