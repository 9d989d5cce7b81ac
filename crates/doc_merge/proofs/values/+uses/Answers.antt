-- What a list holds is less deep than it.
use Rattle.std.proofs.Common.{◌≤◌, arith}
use Rattle.plan_ir.specs.gql_ast.Value.{val_depth, vals_of, vals_depth, members_of, members_depth}
use Rattle.plan_ir.specs.gql_ast.ValueView.{value_of}
use Rattle.plan_ir.proofs.schema_trees_laws.LocatedSteps.{value_below, member_below}
use Rattle.doc_merge.proofs.values.+uses.Goals as goal

pub are_allowed_among-are_allowed-requires : goal.are_allowed_among-are_allowed-requires
are_allowed_among-are_allowed-requires t c =
    let less : val_depth (value_of c.member-item.result.value) ≤ members_depth (members_of c.args.members.now) =
    member_below _ _ c.members.member-index c.member-item.result (omega arith) c.member-item.is c.members.invariant.0 in
    (omega arith, c.requires)

pub are_allowed_in-are_allowed-requires : goal.are_allowed_in-are_allowed-requires
are_allowed_in-are_allowed-requires t c =
    let less : val_depth (value_of c.value-item.result) ≤ vals_depth (vals_of c.args.values.now) =
    value_below _ _ c.items.value-index c.value-item.result (omega arith) c.value-item.is c.items.invariant.0 in
    (omega arith, c.requires)
