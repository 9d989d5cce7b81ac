-- What is put and what is left are the whole.
use Rattle.std.proofs.Common.{◌≡◌, drop, option_map}
use Rattle.std.specs.Option.{option_or}
use Rattle.plan_ir.specs.gql_graph.Rules.{each}
use Rattle.plan_ir.specs.relay_marks.Connections.{value_of_name}
use Rattle.plan_ir.specs.Substitution.{arguments_in}
use Rattle.plan_ir.specs.schema_tables.Types.{Text}
use Rattle.plan_expand.specs.Sizes.{size_in}
use Rattle.plan_expand.specs.SizesView.{find_size, sizes_of}
use Rattle.plan_expand.proofs.sizes.gift_sizes.Given as goal

abbrev pub invariant-directives : goal.invariant-directives
invariant-directives l =
    (n : Text) → option_or (find_size l.given n) (option_map (size_in (sizes_of l.scope)) (value_of_name (each arguments_in (drop l.directive-index l.directive-items)) n))
    ≡ option_map (size_in (sizes_of l.scope)) (value_of_name (each arguments_in l.directives) n)
