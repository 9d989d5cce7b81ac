-- What is left is allowed where the whole is; what a list holds is less deep than it.
use Rattle.std.proofs.Common.{◌≡◌, ◌+◌, ◌*◌, map, drop, option_map}
use Rattle.std.specs.Prelude.{option_copied}
use Rattle.plan_ir.specs.gql_ast.Value.{members_of, vals_of, val_depth, vals_depth, members_depth}
use Rattle.plan_ir.specs.gql_ast.ValueView.{value_of, argument_of}
use Rattle.doc_uses.specs.UseView.{fields_of_name, place_of}
use Rattle.doc_merge.specs.Values.{items_are_allowed, members_are_allowed}
use Rattle.doc_merge.proofs.values.+uses.Given as goal

abbrev pub decreases-are_allowed : goal.decreases-are_allowed
decreases-are_allowed l = 2 * val_depth (value_of l.value.now)

abbrev pub decreases-are_allowed_in : goal.decreases-are_allowed_in
decreases-are_allowed_in l = 2 * vals_depth (vals_of l.values.now) + 1

abbrev pub decreases-are_allowed_among : goal.decreases-are_allowed_among
decreases-are_allowed_among l = 2 * members_depth (members_of l.members.now) + 1

abbrev pub invariant-are_allowed_in-items : goal.invariant-are_allowed_in-items
invariant-are_allowed_in-items l =
    (map value_of l.value-items ≡ l.values)
    × (items_are_allowed l.schema l.variables.defined.now (vals_of (map value_of (drop l.value-index l.value-items))) (option_map place_of l.place)
    ≡ items_are_allowed l.schema l.variables.defined.now (vals_of l.values) (option_map place_of l.place))

abbrev pub invariant-are_allowed_among-members : goal.invariant-are_allowed_among-members
invariant-are_allowed_among-members l =
    (map argument_of l.member-items ≡ l.members)
    × (members_are_allowed l.schema l.variables.defined.now (members_of (map argument_of (drop l.member-index l.member-items))) (fields_of_name l.schema (option_copied l.of))
    ≡ members_are_allowed l.schema l.variables.defined.now (members_of l.members) (fields_of_name l.schema (option_copied l.of)))
