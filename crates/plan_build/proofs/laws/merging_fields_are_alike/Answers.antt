-- Fields that can merge are alike.
use Rattle.plan_build.proofs.FieldsAlike.{merging_fields_are_alike}
use Rattle.plan_build.proofs.laws.merging_fields_are_alike.Goals as goal

pub returns : goal.returns
returns c = λ defs e none. merging_fields_are_alike defs e none
