use Rattle.plan_text.proofs.Saying.{text_says_the_operation}
use Rattle.plan_text.proofs.laws.text_says_the_operation.Goals as goal

pub returns : goal.returns
returns c = λ p o formed utf8 shallow. text_says_the_operation p o formed utf8 shallow
