-- Fields of one form are alike.
use Rattle.plan_build.proofs.FieldsAlike.{fields_of_one_form_are_alike}
use Rattle.plan_build.proofs.laws.fields_of_one_form_are_alike.Goals as goal

pub returns : goal.returns
returns c = λ defs e all. fields_of_one_form_are_alike defs e all
