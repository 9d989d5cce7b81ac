use Rattle.plan_text.proofs.PrintedForms.{is_one_document}
use Rattle.plan_text.proofs.laws.text_is_one_document.Goals as goal

pub returns : goal.returns
returns c = λ file e h utf8 shallow. is_one_document file e h utf8 shallow
