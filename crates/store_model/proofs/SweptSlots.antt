-- What a sweep leaves of records.
use Rattle.std.proofs.Common.{◌≡◌, Bool, true, false, true≢false, not, ◌&&◌, cond, Option, Some, None, is_some, bytes_eq, refl, sym, ap, ◌∙◌}
use Rattle.std.proofs.lemmas.Map.Text.{is_eq-slice_cmp}
use Rattle.std.proofs.lemmas.Map.Views.{any-filter_same}
use Rattle.std.proofs.lemmas.Slice.Eq.{bytes_eq-Decides}
use Rattle.std.specs.Cmp.Lexicographic.{slice_cmp, nat_list_eq_equiv}
use Rattle.std.specs.FinMap.{IsAntisymmetric, keys, contains_key-keys, get-retain_keys, slice_cmp-IsAntisymmetric, nat_cmp-IsAntisymmetric}
use Rattle.std.specs.List.{list_any}
use Rattle.std.specs.Ordering.{eq_by_cmp, nat_cmp}
use Rattle.store_record.specs.gql_plain.Order.{has_text}
use Rattle.store_record.specs.Keys.{Text}
use Rattle.store_model.specs.Records.{Records, slot_at}
use Rattle.store_model.specs.Sweeps.{dropped, sweep}
use Rattle.store_record.specs.declared.record.Slot.{Slot}

-- ---- slots

pub ties_alone : IsAntisymmetric (slice_cmp nat_cmp)
ties_alone = slice_cmp-IsAntisymmetric nat_cmp-IsAntisymmetric

tied : (id q : Text) → eq_by_cmp (slice_cmp nat_cmp) q id ≡ bytes_eq id q
tied id q = is_eq-slice_cmp q id ∙ nat_list_eq_equiv.symm q id

pub slot_at-sweep : (keep : Text → Bool) (m : Records) (id : Text) → slot_at id (sweep keep m) ≡ cond (keep id) (slot_at id m) None
slot_at-sweep keep m id = get-retain_keys m keep id (λ x e. ap keep (sym (ties_alone id x e)))

-- an id goes exactly if it is there and not kept
pub has_text-dropped : (keep : Text → Bool) (m : Records) (id : Text) → has_text (dropped keep m) id ≡ (not (keep id) && is_some (slot_at id m))
has_text-dropped keep m id =
    any-filter_same (λ one. bytes_eq one id) (λ one. not (keep one)) (not (keep id)) (λ one e. ap (λ t. not (keep t)) ((bytes_eq-Decides one id).0 e)) (keys m)
    ∙ ap (λ b. not (keep id) && b) (ap (λ test. list_any test (keys m)) (λ i one. sym (tied one id) i) ∙ sym (contains_key-keys m id))

kept_or_absent : (b : Bool) (s : Option Slot) → (not b && is_some s) ≡ false → s ≡ cond b s None
kept_or_absent true s h = refl
kept_or_absent false None h = refl
kept_or_absent false (Some s) h = absurd (true≢false h)

-- the slots are the same at each id that does not go
pub same_swept : (keep : Text → Bool) (m : Records) (id : Text) → has_text (dropped keep m) id ≡ false → slot_at id m ≡ slot_at id (sweep keep m)
same_swept keep m id h = kept_or_absent (keep id) (slot_at id m) (sym (has_text-dropped keep m id) ∙ h) ∙ sym (slot_at-sweep keep m id)
