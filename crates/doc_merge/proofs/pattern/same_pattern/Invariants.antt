-- All levels so far are the same.
use Rattle.std.proofs.Common.{◌≡◌, ◌≤◌, ◌-◌, length, drop}
use Rattle.doc_merge.specs.Joined.{same_pattern}
use Rattle.doc_merge.proofs.PatternSteps.{parents}
use Rattle.doc_merge.proofs.pattern.same_pattern.Given as goal

abbrev pub invariant-levels : goal.invariant-levels
invariant-levels l = record {
  within : l.at ≤ length l.ones;
  as_long : length l.ones ≡ length l.others;
  left : same_pattern (parents l.ones) (parents l.others) ≡ same_pattern (parents (drop l.at l.ones)) (parents (drop l.at l.others));
}

abbrev pub decreases-levels : goal.decreases-levels
decreases-levels l = length l.ones - l.at
