-- What is put and what is left are the whole.
use Rattle.std.proofs.Common.{◌≡◌, map, drop, option_map}
use Rattle.std.specs.Option.{option_or}
use Rattle.plan_ir.specs.gql_ast.ValueView.{argument_of}
use Rattle.plan_ir.specs.relay_marks.Connections.{value_of_name}
use Rattle.plan_ir.specs.schema_tables.Types.{Text}
use Rattle.plan_expand.specs.Sizes.{size_in}
use Rattle.plan_expand.specs.SizesView.{find_size, sizes_of}
use Rattle.plan_expand.proofs.sizes.GiftSizes.put_arguments.Given as goal

abbrev pub invariant-arguments : goal.invariant-arguments
invariant-arguments l =
    (map argument_of l.argument-items ≡ l.arguments)
    × ((n : Text) → option_or (find_size l.self n) (option_map (size_in (sizes_of l.scope)) (value_of_name (map argument_of (drop l.argument-index l.argument-items)) n))
    ≡ option_or (find_size l.initial.self n) (option_map (size_in (sizes_of l.scope)) (value_of_name l.arguments n)))
