use Rattle.std.proofs.Common.{sym, subst}
use Rattle.store_conn.specs.gql_plain.Order.{AreInOrder}
use Rattle.store_update.proofs.Groups.{touched_once}
use Rattle.store_update.proofs.touched.touched.Goals as goal
use Rattle.store_update.specs.Touched.{AreTouched}

pub returns-then-do_rise-clause-touched : goal.returns-then-do_rise-clause-touched
returns-then-do_rise-clause-touched g c =
    let before = g.S.RecordSource.records c.args.before.now in
    let after = g.S.RecordSource.records c.args.after.now in
    subst (AreTouched before after) (sym c.in_ok-touched.ensures) (touched_once before after c.args.noted.items c.requires (subst AreInOrder c.deref.ensures.value (c.do_rise.ensures c.if-do_rise.true)))
