-- What is written, followed by what is left, is the whole; what a list or an object holds is less deep than it.
use Rattle.std.proofs.Common.{◌≡◌, ◌+◌, ◌*◌, ◌++◌, false, map, drop, string_bytes}
use Rattle.plan_ir.specs.gql_ast.Value.{members_depth, members_of, val_depth, vals_depth, vals_of}
use Rattle.plan_ir.specs.gql_ast.ValueView.{value_of}
use Rattle.plan_ir.specs.OperationText.{by_name, value_texts}
use Rattle.plan_text.proofs.Joining.{join_from}
use Rattle.plan_text.proofs.values.+values.Given as goal
use Rattle.plan_text.specs.Pairs.{pair_of, pair_text}

abbrev pub decreases-write_value : goal.decreases-write_value
decreases-write_value l = 2 * val_depth (value_of l.value.now)

abbrev pub decreases-write_values : goal.decreases-write_values
decreases-write_values l = 2 * vals_depth (vals_of l.values.now) + 1

abbrev pub decreases-write_pairs : goal.decreases-write_pairs
decreases-write_pairs l = 2 * members_depth (members_of l.arguments.now) + 1

abbrev pub invariant-write_values-items : goal.invariant-write_values-items
invariant-write_values-items l =
    (map value_of l.value-items ≡ l.values)
    × (string_bytes l.out ++ join_from l.begun 44 (value_texts (vals_of (map value_of (drop l.value-index l.value-items))))
    ≡ string_bytes l.initial.out ++ join_from false 44 (value_texts (vals_of l.values)))

abbrev pub invariant-write_pairs-pairs : goal.invariant-write_pairs-pairs
invariant-write_pairs-pairs l =
    (map pair_of l.pair-items ≡ by_name l.fn.arguments)
    × (string_bytes l.out ++ join_from l.begun 44 (map pair_text (drop l.pair-index l.pair-items))
    ≡ string_bytes l.initial.out ++ join_from false 44 (map pair_text l.pair-items))
