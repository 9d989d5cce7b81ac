-- What is added up and what is left are the whole.
use Rattle.std.proofs.Common.{◌≡◌, map, drop}
use Rattle.plan_ir.specs.gql_ast.Value.{members_of, vals_of}
use Rattle.plan_ir.specs.gql_ast.ValueView.{argument_of, value_of}
use Rattle.plan_expand.specs.Sizes.{beside, items_size, members_size}
use Rattle.plan_expand.specs.SizesView.{sizes_of}
use Rattle.plan_expand.proofs.values.+size.Given as goal

abbrev pub invariant-size_of_items-values : goal.invariant-size_of_items-values
invariant-size_of_items-values l =
    beside l.all (items_size (sizes_of l.scope) (vals_of (map value_of (drop l.value-index l.value-items)))) ≡ items_size (sizes_of l.scope) (vals_of (map value_of l.value-items))

abbrev pub invariant-size_of_arguments-arguments : goal.invariant-size_of_arguments-arguments
invariant-size_of_arguments-arguments l =
    beside l.all (members_size (sizes_of l.scope) (members_of (map argument_of (drop l.argument-index l.argument-items)))) ≡ members_size (sizes_of l.scope) (members_of (map argument_of l.argument-items))
