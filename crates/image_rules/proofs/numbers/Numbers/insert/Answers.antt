use Rattle.image_rules.proofs.NumberSteps.{put_number}
use Rattle.image_rules.proofs.numbers.Numbers.insert.Goals as goal

pub returns-clause-known : goal.returns-clause-known
returns-clause-known c = λ before k n. put_number c.args.number n _ _ before (c.in_ok-is_new.ensures.updates.0 n) (k n)
