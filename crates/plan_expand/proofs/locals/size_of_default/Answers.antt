-- The size of the default.
use Rattle.std.proofs.Common.{Option, option_map, ap, sym, ◌∙◌}
use Rattle.plan_ir.specs.gql_ast.ValueView.{value_of}
use Rattle.plan_ir.specs.gql_ast.declared.value.ValueTree.{ValueTree}
use Rattle.plan_expand.specs.Sizes.{default_size}
use Rattle.plan_expand.proofs.ValueSizes.{own_value}
use Rattle.plan_expand.proofs.locals.size_of_default.Goals as goal

pub returns-in-Some : goal.returns-in-Some
returns-in-Some c =
    c.in_ok-size-in-Some.ensures ∙ own_value (value_of c.in-Some.value)
    ∙ sym (ap (λ (o : Option ValueTree). default_size (option_map value_of o)) c.in-Some.is)
