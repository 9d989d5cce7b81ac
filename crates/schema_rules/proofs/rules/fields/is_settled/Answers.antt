-- The field's name and the types of its arguments are not before the least place.
use Rattle.std.proofs.Common.{map, subst}
use Rattle.std.specs.List.{AllByRecursion}
use Rattle.schema_trees.specs.LocatedView.{input_of, field_of}
use Rattle.schema_rules.proofs.SettledSteps.{IsLater, lacks_later}
use Rattle.schema_rules.proofs.rules.fields.is_settled.Goals as goal

pub returns-then-is_at_most : goal.returns-then-is_at_most
returns-then-is_at_most c = λ e ws.
    lacks_later c.args.least.now.at (field_of c.args.field.now) (c.is_at_most.ensures c.if-is_at_most.true)
    (subst (λ is. AllByRecursion (IsLater c.args.least.now.at) (map input_of is)) c.deref.ensures.value (c.are_settled.ensures e)) ws
