-- A change of the slot of an id, put into the records, is what the row or the command makes of them.
use Rattle.std.proofs.Common.{◌≡◌, true, true≢false, cond, Bool, false, [], Option, Some, None, refl, sym, ap, ◌∙◌, subst, unwrap_or, option_map, option_and_then, nat_cmp}
use Rattle.std.proofs.lemmas.Map.Text.{is_eq-slice_cmp}
use Rattle.std.proofs.lemmas.Slice.Eq.{bytes_eq-Decides}
use Rattle.std.specs.Cmp.Lexicographic.{slice_cmp, nat_list_cmp_total}
use Rattle.std.specs.FinMap as finmap
use Rattle.std.specs.Ordering.{eq_by_cmp}
use Rattle.store_conn.specs.store_record.Keys.{Text, field_key}
use Rattle.store_conn.specs.store_record.declared.field.Field.TheVariants.{Leaf, Links}
use Rattle.store_conn.specs.store_record.declared.record.Record.{Record}
use Rattle.store_conn.specs.store_record.declared.record.Slot.{Slot}
use Rattle.store_conn.specs.store_record.declared.record.Slot.TheVariants.{Deleted, Alive}
use Rattle.store_conn.specs.store_model.FactRows.{row_onto, with_row}
use Rattle.store_conn.specs.store_model.Records.{Records, slot_at, alive, with_slot, with_record, with_field, record_of}
use Rattle.store_conn.specs.store_model.Updates.{create_record, delete_record, act, add_to_field, link_or_null}
use Rattle.store_conn.specs.store_model.declared.command.Command.{Command}
use Rattle.store_conn.specs.store_model.declared.command.Command.TheVariants as C
use Rattle.store_conn.specs.store_model.declared.facts.FactRow.{FactRow}
use Rattle.store_update.specs.Slots.{slot_after, with_change, slot_by_row, slot_changed, slot_created, slot_deleted, slot_by_command, id_of}
use Rattle.store_update.specs.Turns.{is_of_record}

-- ---- one slot

same_key : (id q : Text) → eq_by_cmp (slice_cmp nat_cmp) q id ≡ true → q ≡ id
same_key id q e = (bytes_eq-Decides q id).0 (sym (is_eq-slice_cmp q id) ∙ e)

-- to put the slot that stands there changes nothing
pub stays : (id : Text) (m : Records) (s : Slot) → slot_at id m ≡ Some s → with_slot id s m ≡ m
stays id m s e =
    finmap.same_map nat_list_cmp_total (finmap.slice_cmp-IsAntisymmetric finmap.nat_cmp-IsAntisymmetric) (with_slot id s m) m (λ q.
    finmap.get-insert nat_list_cmp_total m id s q ∙ at q (eq_by_cmp (slice_cmp nat_cmp) q id) refl)
  where
    at : (q : Text) (b : Bool) → eq_by_cmp (slice_cmp nat_cmp) q id ≡ b → cond b (Some s) (finmap.get m q) ≡ finmap.get m q
    at q true p = sym e ∙ ap (finmap.get m) (sym (same_key id q p))
    at q false p = refl

module _ (id : Text) (m : Records) where
  made : (change : Option Slot) (s : Slot) → slot_after change (slot_at id m) ≡ Some s → with_change id change m ≡ with_slot id s m
  made None s e = sym (stays id m s e)
  made (Some t) s e = ap (λ o. with_slot id (unwrap_or o t) m) e

  unchanged : (change : Option Slot) → slot_after change (slot_at id m) ≡ slot_at id m → with_change id change m ≡ m
  unchanged None e = refl
  unchanged (Some t) e = stays id m t (sym e)

  module _ (change : Option Slot) where
    made_from : (o : Option Slot) (s : Slot) → slot_at id m ≡ o → slot_after change o ≡ Some s → with_change id change m ≡ with_slot id s m
    made_from o s p e = made change s (subst (λ x. slot_after change x ≡ Some s) (sym p) e)

    unchanged_from : (o : Option Slot) → slot_at id m ≡ o → slot_after change o ≡ o → with_change id change m ≡ m
    unchanged_from o p e = unchanged change (subst (λ x. slot_after change x ≡ x) (sym p) e)

    changed_is : (f : Record → Record) (o : Option Slot) → slot_at id m ≡ o → slot_after change o ≡ slot_changed f o
        → with_change id change m ≡ unwrap_or (option_map (λ r. with_record id (f r) m) (option_and_then alive o)) m
    changed_is f None p e = unchanged_from None p e
    changed_is f (Some Deleted) p e = unchanged_from (Some Deleted) p e
    changed_is f (Some (Alive r)) p e = made_from (Some (Alive r)) (Alive (f r)) p e

    created_is : (of : Text) (o : Option Slot) → slot_at id m ≡ o → slot_after change o ≡ slot_created of o
        → with_change id change m ≡ create_record (option_and_then alive o) id of m
    created_is of None p e = made_from None (Alive (record_of of)) p e
    created_is of (Some Deleted) p e = made_from (Some Deleted) (Alive (record_of of)) p e
    created_is of (Some (Alive r)) p e = unchanged_from (Some (Alive r)) p e

    deleted_is : (o : Option Slot) → slot_at id m ≡ o → slot_after change o ≡ slot_deleted o
        → with_change id change m ≡ delete_record (option_and_then alive o) id m
    deleted_is None p e = unchanged_from None p e
    deleted_is (Some Deleted) p e = unchanged_from (Some Deleted) p e
    deleted_is (Some (Alive r)) p e = made_from (Some (Alive r)) Deleted p e

-- ---- rows and commands

pub row_is : (row : FactRow) (m : Records) (found change : Option Slot) → found ≡ slot_at row.id m → slot_after change found ≡ slot_by_row row found
    → with_change row.id change m ≡ with_row row m
row_is row m found change same e =
    let here : slot_after change (slot_at row.id m) ≡ slot_by_row row (slot_at row.id m) = subst (λ x. slot_after change x ≡ slot_by_row row x) same e in
    made row.id m change (Alive (row_onto row (unwrap_or (option_and_then alive (slot_at row.id m)) (record_of [])))) here

act_is : (c : Command) (m : Records) (change : Option Slot) → is_of_record c ≡ true → slot_after change (slot_at (id_of c) m) ≡ slot_by_command c (slot_at (id_of c) m)
    → with_change (id_of c) change m ≡ act c m
act_is (C.Set id field args value) m change h e = changed_is id m change (with_field (field_key field args) (Leaf value)) (slot_at id m) refl e
act_is (C.Add id field args by) m change h e = changed_is id m change (add_to_field (field_key field args) by) (slot_at id m) refl e
act_is (C.Link id field args to) m change h e = changed_is id m change (with_field (field_key field args) (link_or_null to)) (slot_at id m) refl e
act_is (C.Links id field args to) m change h e = changed_is id m change (with_field (field_key field args) (Links to)) (slot_at id m) refl e
act_is (C.Create id of) m change h e = created_is id m change of (slot_at id m) refl e
act_is (C.Delete id) m change h e = deleted_is id m change (slot_at id m) refl e
act_is (C.AppendNode x) m change h e = absurd (true≢false (sym h))
act_is (C.PrependNode x) m change h e = absurd (true≢false (sym h))
act_is (C.DeleteEdge x) m change h e = absurd (true≢false (sym h))

pub command_is : (c : Command) (m : Records) (found change : Option Slot) → is_of_record c ≡ true → found ≡ slot_at (id_of c) m → slot_after change found ≡ slot_by_command c found
    → with_change (id_of c) change m ≡ act c m
command_is c m found change h same e = act_is c m change h (subst (λ x. slot_after change x ≡ slot_by_command c x) same e)
