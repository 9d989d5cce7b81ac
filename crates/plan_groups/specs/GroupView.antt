-- What fields of one response key stand for.
use Rattle.std.specs.Prelude.{List, map}
use Rattle.plan_ir.specs.NormalMeaning.{Plan}
use Rattle.plan_groups.specs.FieldView.{asked_at}
use Rattle.plan_groups.specs.declared.field.FieldAt.{FieldAt}
use Rattle.plan_ir.specs.store_model.Items.{Group}

abbrev pub group_of : FieldAt → List FieldAt → Group Plan
group_of first others = record { first = asked_at first; others = map asked_at others }
