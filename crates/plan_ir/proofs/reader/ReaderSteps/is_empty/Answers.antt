use Rattle.std.proofs.Common.{arith}
use Rattle.std.proofs.lemmas.Grind.{common_steps}
use Rattle.plan_ir.proofs.ReaderLaws.{steps_of-done}
use Rattle.plan_ir.proofs.reader.ReaderSteps.is_empty.Goals as goal

pub returns : goal.returns
returns c = grind (arith, common_steps, steps_of-done)
