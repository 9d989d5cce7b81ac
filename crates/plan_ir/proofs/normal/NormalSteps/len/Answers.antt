use Rattle.std.proofs.Common.{arith}
use Rattle.std.proofs.lemmas.Grind.{common_steps}
use Rattle.plan_ir.proofs.NormalLaws.{number_of-steps_of}
use Rattle.plan_ir.proofs.normal.NormalSteps.len.Goals as goal

pub returns : goal.returns
returns c = grind (arith, common_steps, number_of-steps_of)
