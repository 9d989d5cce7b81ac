use Rattle.std.proofs.Common.{Some, sym, ap}
use Rattle.store_conn.specs.store_record.declared.record.Slot.TheVariants.{Alive}
use Rattle.store_update.proofs.Kept.{row_kept}
use Rattle.store_update.proofs.row.put_onto.Goals as goal

pub returns-then-has_row : goal.returns-then-has_row
returns-then-has_row c = ap (λ r. Some (Alive r)) (sym (row_kept c.args.row.now c.args.old.now c.in_order.ensures (sym c.if-has_row.ensures)))
