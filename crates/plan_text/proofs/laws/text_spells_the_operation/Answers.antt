use Rattle.plan_text.proofs.OperationRead.{spells_printed}
use Rattle.plan_text.proofs.laws.text_spells_the_operation.Goals as goal

pub returns : goal.returns
returns c = λ e h. spells_printed e h
