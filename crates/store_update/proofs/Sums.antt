-- A number added to a field of a record.
use Rattle.std.proofs.Common.{◌≡◌, ℤ, Some, sym, ap, ◌∙◌, unwrap_or, option_map}
use Rattle.std.specs.Map.{keys_of}
use Rattle.store_conn.specs.gql_plain.Order.{AreInOrder, member_at}
use Rattle.store_conn.specs.store_record.Keys.{Text}
use Rattle.store_conn.specs.store_record.declared.field.Field.{Field}
use Rattle.store_conn.specs.store_record.declared.record.Record.{Record}
use Rattle.store_conn.specs.store_model.Records.{with_field}
use Rattle.store_conn.specs.store_model.Updates.{field_plus, add_to_field}
use Rattle.store_update.proofs.Kept.{put_same}

pub sum_put : (key : Text) (by : ℤ) (r : Record) (old new : Field) → Some old ≡ member_at r.fields key → new ≡ field_plus by old → with_field key new r ≡ add_to_field key by r
sum_put key by r old new found is =
    ap (λ f. with_field key f r) is ∙ ap (λ o. unwrap_or (option_map (λ f. with_field key (field_plus by f) r) o) r) found

-- where the field stays, the record stays
pub sum_kept : (key : Text) (by : ℤ) (r : Record) (old : Field) → AreInOrder (keys_of r.fields) → Some old ≡ member_at r.fields key → old ≡ field_plus by old → r ≡ add_to_field key by r
sum_kept key by r old sorted found is =
    sym (ap (λ fields. record { type_name = r.type_name; fields = fields }) (put_same key old r.fields sorted (sym found)))
    ∙ sum_put key by r old old found is
