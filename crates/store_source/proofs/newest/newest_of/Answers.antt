use Rattle.std.proofs.Common.{◌∙◌, sym, arith}
use Rattle.store_source.proofs.Laid.{found_here, found_later}
use Rattle.store_source.proofs.newest.newest_of.Goals as goal

pub returns-then-is_of : goal.returns-then-is_of
returns-then-is_of c =
    found_here c.args.changes.now c.args.id.now c.changes.change-index c.change-item.result (omega arith) c.change-item.is _ (sym c.is_of.ensures ∙ c.if-is_of.true) c.value.ensures c.changes.invariant

pub changes-preserved : goal.changes-preserved
changes-preserved c =
    found_later c.args.changes.now c.args.id.now c.changes.change-index c.change-item.result (omega arith) c.change-item.is (sym c.is_of.ensures ∙ c.if-is_of.false) c.changes.invariant
