-- What a list holds is less deep than it.
use Rattle.std.proofs.Common.{◌≤◌, arith}
use Rattle.schema_types.specs.gql_ast.Value.{val_depth, vals_of, vals_depth, members_of, members_depth}
use Rattle.schema_types.specs.gql_ast.ValueView.{value_of}
use Rattle.schema_types.proofs.schema_trees_laws.LocatedSteps.{value_below, member_below}
use Rattle.constant_values.proofs.constants.+constants.Goals as goal

pub have_constants-is_constant-requires : goal.have_constants-is_constant-requires
have_constants-is_constant-requires t c =
    let less : val_depth (value_of c.member-item.result.value) ≤ members_depth (members_of c.args.members.now) =
    member_below _ _ c.members.member-index c.member-item.result (omega arith) c.member-item.is c.members.invariant.0 in
    (omega arith, tt)

pub are_constant-is_constant-requires : goal.are_constant-is_constant-requires
are_constant-is_constant-requires t c =
    let less : val_depth (value_of c.value-item.result) ≤ vals_depth (vals_of c.args.values.now) =
    value_below _ _ c.items.value-index c.value-item.result (omega arith) c.value-item.is c.items.invariant.0 in
    (omega arith, tt)
