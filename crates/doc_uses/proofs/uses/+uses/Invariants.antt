-- What is put and what is left are the whole; what a list holds is less deep than it.
use Rattle.std.proofs.Common.{◌≡◌, ◌+◌, ◌*◌, ◌++◌, map, drop, option_map}
use Rattle.std.specs.Prelude.{option_copied}
use Rattle.doc_sites.specs.gql_ast.Value.{members_of, vals_of, val_depth, vals_depth, members_depth}
use Rattle.doc_sites.specs.gql_ast.ValueView.{value_of, argument_of}
use Rattle.doc_sites.specs.schema_types.ArgumentRules as rules
use Rattle.doc_sites.specs.schema_trees.Located.{members_nodes, values_nodes}
use Rattle.doc_uses.specs.UseView.{fields_of_name, place_of, use_of}
use Rattle.doc_uses.proofs.uses.+uses.Given as goal

abbrev pub decreases-put_member_uses : goal.decreases-put_member_uses
decreases-put_member_uses l = 2 * members_depth (members_of l.members.now) + 1

abbrev pub decreases-put_uses : goal.decreases-put_uses
decreases-put_uses l = 2 * val_depth (value_of l.value.now)

abbrev pub decreases-put_item_uses : goal.decreases-put_item_uses
decreases-put_item_uses l = 2 * vals_depth (vals_of l.values.now) + 1

abbrev pub invariant-put_item_uses-items : goal.invariant-put_item_uses-items
invariant-put_item_uses-items l =
    (map value_of l.value-items ≡ l.values)
    × (map use_of l.uses.items ++ rules.uses_in_items l.schema l.at (vals_of (map value_of (drop l.value-index l.value-items))) (option_map place_of l.place)
    ≡ map use_of l.initial.uses.items ++ rules.uses_in_items l.schema l.initial.at (vals_of l.values) (option_map place_of l.place))
    × (l.at + values_nodes (vals_of (map value_of (drop l.value-index l.value-items))) ≡ l.initial.at + values_nodes (vals_of l.values))

abbrev pub invariant-put_member_uses-members : goal.invariant-put_member_uses-members
invariant-put_member_uses-members l =
    (map argument_of l.member-items ≡ l.members)
    × (map use_of l.uses.items ++ rules.uses_in_members l.schema l.at (members_of (map argument_of (drop l.member-index l.member-items))) (fields_of_name l.schema (option_copied l.of))
    ≡ map use_of l.initial.uses.items ++ rules.uses_in_members l.schema l.initial.at (members_of l.members) (fields_of_name l.schema (option_copied l.of)))
    × (l.at + members_nodes (members_of (map argument_of (drop l.member-index l.member-items))) ≡ l.initial.at + members_nodes (members_of l.members))
