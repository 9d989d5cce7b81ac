use Rattle.std.proofs.Common.{◌≡◌, Some, IfOk, sym, ◌∙◌, subst}
use Rattle.store_conn.specs.store_record.declared.record.Slot.TheVariants.{Alive}
use Rattle.store_update.proofs.Kept.{put_into_none}
use Rattle.store_update.proofs.row.new_slot.Goals as goal

pub returns : goal.returns
returns c =
    let fields = c.in_ok-fields.ensures ∙ sym (put_into_none c.args.row.now.fields c.in_order.ensures) in
    subst (λ slot. IfOk c.live_slot.result (λ made. made ≡ slot))
    (λ i. Some (Alive (record { type_name = c.in_ok-type_name.ensures i; fields = fields i })))
    c.live_slot.ensures
