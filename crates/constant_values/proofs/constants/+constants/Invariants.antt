-- None so far is a variable; what a list holds is less deep than it.
use Rattle.std.proofs.Common.{◌≡◌, ◌+◌, ◌*◌, map, drop}
use Rattle.schema_types.specs.gql_ast.Value.{members_of, vals_of, val_depth, vals_depth, members_depth}
use Rattle.schema_types.specs.gql_ast.ValueView.{value_of, argument_of}
use Rattle.constant_values.specs.Fittings.{are_constant, have_constants}
use Rattle.constant_values.proofs.constants.+constants.Given as goal

abbrev pub decreases-is_constant : goal.decreases-is_constant
decreases-is_constant l = 2 * val_depth (value_of l.value.now)

abbrev pub decreases-are_constant : goal.decreases-are_constant
decreases-are_constant l = 2 * vals_depth (vals_of l.values.now) + 1

abbrev pub decreases-have_constants : goal.decreases-have_constants
decreases-have_constants l = 2 * members_depth (members_of l.members.now) + 1

abbrev pub invariant-are_constant-items : goal.invariant-are_constant-items
invariant-are_constant-items l =
    (map value_of l.value-items ≡ l.values) × (are_constant (vals_of l.values) ≡ are_constant (vals_of (map value_of (drop l.value-index l.value-items))))

abbrev pub invariant-have_constants-members : goal.invariant-have_constants-members
invariant-have_constants-members l =
    (map argument_of l.member-items ≡ l.members)
    × (have_constants (members_of l.members) ≡ have_constants (members_of (map argument_of (drop l.member-index l.member-items))))
