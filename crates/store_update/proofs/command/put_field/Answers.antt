use Rattle.std.proofs.Common.{Some, sym, ap, ◌∙◌}
use Rattle.store_conn.specs.store_record.declared.record.Slot.TheVariants.{Alive}
use Rattle.store_update.proofs.Kept.{field_kept}
use Rattle.store_update.proofs.command.put_field.Goals as goal
use Rattle.store_update.specs.Fields.{has_field}

pub returns-then-has_field : goal.returns-then-has_field
returns-then-has_field c =
    let there = ap (λ key. has_field c.args.row.now.fields (key, c.args.field)) (sym c.as_str.ensures) ∙ sym c.if-has_field.ensures in
    ap (λ r. Some (Alive r)) (sym (field_kept c.args.key c.args.field c.args.row.now c.in_order.ensures there))
