-- What a list holds is less deep than it.
use Rattle.std.proofs.Common.{◌≤◌, arith}
use Rattle.doc_sites.specs.gql_ast.Value.{val_depth, vals_of, vals_depth, members_of, members_depth}
use Rattle.doc_sites.specs.gql_ast.ValueView.{value_of}
use Rattle.doc_sites.proofs.schema_trees_laws.LocatedSteps.{value_below, member_below}
use Rattle.doc_uses.proofs.uses.+uses.Goals as goal

pub put_member_uses-put_uses-requires : goal.put_member_uses-put_uses-requires
put_member_uses-put_uses-requires t c =
    let less : val_depth (value_of c.member-item.result.value) ≤ members_depth (members_of c.args.members.now) =
    member_below _ _ c.members.member-index c.member-item.result (omega arith) c.member-item.is c.members.invariant.0 in
    (omega arith, tt)

pub put_item_uses-put_uses-requires : goal.put_item_uses-put_uses-requires
put_item_uses-put_uses-requires t c =
    let less : val_depth (value_of c.value-item.result) ≤ vals_depth (vals_of c.args.values.now) =
    value_below _ _ c.items.value-index c.value-item.result (omega arith) c.value-item.is c.items.invariant.0 in
    (omega arith, tt)
