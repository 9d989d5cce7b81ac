-- All levels so far meet.
use Rattle.std.proofs.Common.{◌≡◌, ◌≤◌, ◌-◌, length, drop}
use Rattle.doc_merge.specs.Paths.{all_meet}
use Rattle.doc_merge.proofs.PatternSteps.{parents}
use Rattle.doc_merge.proofs.pattern.all_meet.Given as goal

abbrev pub invariant-levels : goal.invariant-levels
invariant-levels l = (l.at ≤ length l.ones) × (all_meet (parents l.ones) (parents l.others) ≡ all_meet (parents (drop l.at l.ones)) (parents (drop l.at l.others)))

abbrev pub decreases-levels : goal.decreases-levels
decreases-levels l = length l.ones - l.at
