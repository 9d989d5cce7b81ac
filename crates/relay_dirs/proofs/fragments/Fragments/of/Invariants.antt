-- The table finds what is passed.
use Rattle.std.proofs.Common.{◌≤◌, length, map, drop}
use Rattle.relay_dirs.specs.Tables.{NamesFragments, pair_of}
use Rattle.relay_dirs.proofs.fragments.Fragments.of.Given as goal

abbrev pub decreases-fragments : goal.decreases-fragments
decreases-fragments l = l.left

abbrev pub invariant-fragments : goal.invariant-fragments
invariant-fragments l = (l.left ≤ length l.all) × NamesFragments l.table (map pair_of (drop l.left l.all))
