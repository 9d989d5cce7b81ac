use Rattle.std.proofs.Common.{◌≡◌, ap, ◌∙◌, w64}
use Rattle.std.proofs.lemmas.Int.{to_z-of_z}
use Rattle.store_conn.specs.gql_plain.Order.{member_at}
use Rattle.store_conn.specs.store_record.declared.record.Record.{Record}
use Rattle.store_conn.specs.store_record.declared.record.Slot.TheVariants.{Alive}
use Rattle.store_conn.specs.store_record.Keys.{field_key}
use Rattle.store_conn.specs.store_model.Updates.{field_plus}
use Rattle.store_update.proofs.Sums.{sum_kept}
use Rattle.store_update.proofs.command.add.Goals as goal

pub returns-in-None-sum : goal.returns-in-None-sum
returns-in-None-sum c =
    let row = c.args.row.now in
    let found = c.in-Some.ensures ∙ ap (member_at row.fields) (c.as_str.ensures ∙ c.in_ok-key.ensures) in
    let old = c.in-Some.old.now in
    let stays : old ≡ field_plus c.args.by old = c.in-None-sum.ensures ∙ ap (λ by. field_plus by old) (to_z-of_z w64 c.args.by c.ranges.by) in
    ap (λ (r : Record). Alive r) (sum_kept (field_key c.args.field.now c.args.args.now) c.args.by row old c.in_order.ensures found stays)
