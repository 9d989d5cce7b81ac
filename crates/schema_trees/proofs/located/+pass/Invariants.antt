-- What is gone past and what is left are the whole; what a list holds is less deep than it.
use Rattle.std.proofs.Common.{◌≡◌, ◌+◌, ◌*◌, map, drop}
use Rattle.schema_tables.specs.gql_ast.Value.{members_of, vals_of, val_depth, vals_depth, members_depth}
use Rattle.schema_tables.specs.gql_ast.ValueView.{value_of, argument_of}
use Rattle.schema_trees.specs.Located.{members_nodes, values_nodes}
use Rattle.schema_trees.proofs.located.+pass.Given as goal

abbrev pub decreases-pass_members : goal.decreases-pass_members
decreases-pass_members l = 2 * members_depth (members_of l.members.now) + 1

abbrev pub decreases-pass_value : goal.decreases-pass_value
decreases-pass_value l = 2 * val_depth (value_of l.value.now)

abbrev pub decreases-pass_values : goal.decreases-pass_values
decreases-pass_values l = 2 * vals_depth (vals_of l.values.now) + 1

abbrev pub invariant-pass_members-members : goal.invariant-pass_members-members
invariant-pass_members-members l =
    (map argument_of l.member-items ≡ l.members)
    × (l.at + members_nodes (members_of (map argument_of (drop l.member-index l.member-items))) ≡ l.initial.at + members_nodes (members_of l.members))

abbrev pub invariant-pass_values-items : goal.invariant-pass_values-items
invariant-pass_values-items l =
    (map value_of l.value-items ≡ l.values)
    × (l.at + values_nodes (vals_of (map value_of (drop l.value-index l.value-items))) ≡ l.initial.at + values_nodes (vals_of l.values))
