-- The ids that entries change.
use Rattle.std.proofs.Common.{◌≡◌, Bool, true, false, true≢false, ◌||◌, not, List, [], ◌∷◌, ◌++◌, refl, sym, ap, ◌∙◌, bytes_eq}
use Rattle.std.proofs.lemmas.Bool.{or_parts}
use Rattle.std.proofs.lemmas.List.Folds.{list_any-append}
use Rattle.std.specs.Bool.{Decides}
use Rattle.store_update.specs.gql_plain.Order.{has_text}
use Rattle.store_update.specs.store_record.Keys.{Text}
use Rattle.store_update.specs.store_model.Entries.{apply, fold_entries}
use Rattle.store_update.specs.store_model.Records.{Records, slot_at}
use Rattle.store_update.specs.store_model.declared.entry.Entry.{Entry}
use Rattle.store_update.proofs.Equal.{slot_eq-Decides}
use Rattle.store_update.specs.Slots.{slot_eq}
use Rattle.store_update.specs.Touched.{AreTouched, is_changed}
use Rattle.store_layers.specs.Changed.{AreChanged, is_changed_by}
use Rattle.store_layers.specs.Versions.{Version, AreVersions, is_noted, touched_by}

-- an id is touched exactly if its slot differs
pub touched_is : (before after : Records) (ids : List Text) (id : Text) → AreTouched before after ids → has_text ids id ≡ is_changed before after id
touched_is before after ids id touched = at (has_text ids id) (slot_eq (slot_at id before) (slot_at id after)) refl (slot_eq-Decides (slot_at id before) (slot_at id after))
  where
    at : (has same : Bool) → has_text ids id ≡ has → Decides same (slot_at id before ≡ slot_at id after) → has ≡ not same
    at true true p d = absurd (true≢false (sym p ∙ (touched id).1 (sym (d.0 refl))))
    at true false p d = refl
    at false true p d = refl
    at false false p d = d.1 (sym ((touched id).0 p))

-- the versions note what the entries change
pub noted_is : (m : Records) (es : List Entry) (vs : List Version) (id : Text) → AreVersions m es vs → is_noted vs id ≡ is_changed_by es m id
noted_is m [] [] id h = refl
noted_is m [] (v ∷ vs) id h = absurd h
noted_is m (e ∷ es) [] id h = absurd h
noted_is m (e ∷ es) (v ∷ vs) id h = λ i. touched_is m (apply e m) v.touched id h.1 i || noted_is (apply e m) es vs id h.2 i

-- what no entry changes stays
pub slot_stays : (es : List Entry) (m : Records) (id : Text) → is_changed_by es m id ≡ false → slot_at id (fold_entries es m) ≡ slot_at id m
slot_stays [] m id h = refl
slot_stays (e ∷ es) m id h =
    slot_stays es (apply e m) id ((or_parts (is_changed m (apply e m) id) (is_changed_by es (apply e m) id) h).1)
    ∙ at (slot_eq (slot_at id m) (slot_at id (apply e m))) (slot_eq-Decides (slot_at id m) (slot_at id (apply e m))) ((or_parts (is_changed m (apply e m) id) (is_changed_by es (apply e m) id) h).0)
  where
    at : (same : Bool) → Decides same (slot_at id m ≡ slot_at id (apply e m)) → not same ≡ false → slot_at id (apply e m) ≡ slot_at id m
    at true d p = sym (d.0 refl)
    at false d p = absurd (true≢false p)

-- the ids that entries change, before and after
pub changed_are : (m : Records) (before after : List Entry) (ids : List Text)
    → ((id : Text) → has_text ids id ≡ (is_changed_by before m id || is_changed_by after m id)) → AreChanged m before after ids
changed_are m before after ids has = record {
  all = λ id none.
      let neither : (is_changed_by before m id || is_changed_by after m id) ≡ false = sym (has id) ∙ none in
      slot_stays after m id ((or_parts (is_changed_by before m id) (is_changed_by after m id) neither).1)
      ∙ sym (slot_stays before m id ((or_parts (is_changed_by before m id) (is_changed_by after m id) neither).0));
  only = λ id h. sym (has id) ∙ h;
}

or_false : (a : Bool) → (a || false) ≡ a
or_false true = refl
or_false false = refl

-- the ids that one entry changes
pub begun_ids : (m : Records) (e : Entry) (ids : List Text) → AreTouched m (apply e m) ids → AreChanged m [] (e ∷ []) ids
begun_ids m e ids touched = changed_are m [] (e ∷ []) ids (λ id. touched_is m (apply e m) ids id touched ∙ sym (or_false (is_changed m (apply e m) id)))

-- ---- lists of ids

noted_has : (vs : List Version) (id : Text) → has_text (touched_by vs) id ≡ is_noted vs id
noted_has [] id = refl
noted_has (v ∷ vs) id = list_any-append (λ one. bytes_eq one id) v.touched (touched_by vs) ∙ ap (λ b. has_text v.touched id || b) (noted_has vs id)

pub gathered_has : (first : List Text) (vs ws : List Version) (id : Text)
    → has_text (first ++ touched_by vs ++ touched_by ws) id ≡ (has_text first id || is_noted vs id || is_noted ws id)
gathered_has first vs ws id =
    list_any-append (λ one. bytes_eq one id) (first ++ touched_by vs) (touched_by ws)
    ∙ (λ i. list_any-append (λ one. bytes_eq one id) first (touched_by vs) i || noted_has ws id i)
    ∙ ap (λ b. has_text first id || b || is_noted ws id) (noted_has vs id)
