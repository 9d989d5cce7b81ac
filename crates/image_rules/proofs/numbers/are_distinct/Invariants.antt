use Rattle.std.proofs.Common.{◌≡◌, ◌≤◌, true, drop, length}
use Rattle.image_rules.specs.Numbers.{Knows}
use Rattle.image_text.specs.Images.{are_distinct}
use Rattle.image_rules.proofs.numbers.are_distinct.Given as goal

abbrev pub invariant-numbers : goal.invariant-numbers
invariant-numbers l = record {
  known : Knows l.seen.numbers (drop l.at l.numbers);
  apart : are_distinct (drop l.at l.numbers) ≡ true;
  within : l.at ≤ length l.numbers;
}

abbrev pub decreases-numbers : goal.decreases-numbers
decreases-numbers l = l.at
