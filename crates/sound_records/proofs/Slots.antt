-- One slot is written.
use Rattle.std.proofs.Common.{◌≡◌, Bool, true, false, cond, Option, Some, None, refl, sym, ap, subst, ◌∙◌, option_and_then, bytes_eq}
use Rattle.std.proofs.lemmas.Map.Text.{is_eq-slice_cmp}
use Rattle.std.proofs.lemmas.Slice.Eq.{bytes_eq-Decides}
use Rattle.std.specs.Cmp.Lexicographic.{slice_cmp, nat_list_cmp_total, nat_list_eq_equiv}
use Rattle.std.specs.FinMap as finmap
use Rattle.std.specs.FinMap.{IsAntisymmetric, get-retain_keys, slice_cmp-IsAntisymmetric, nat_cmp-IsAntisymmetric}
use Rattle.std.specs.Ordering.{nat_cmp}
use Rattle.store_model.specs.store_record.Keys.{Text}
use Rattle.store_model.specs.store_record.declared.record.Record.{Record}
use Rattle.store_model.specs.store_record.declared.record.Slot.{Slot}
use Rattle.store_model.specs.store_record.declared.record.Slot.TheVariants.{Deleted, Alive}
use Rattle.store_model.specs.Records.{Records, slot_at, alive, live, with_slot, with_record, no_records}
use Rattle.store_model.specs.Sweeps.{sweep}
use Rattle.sound_records.specs.Sound.{IsId, IsSoundRecord, IsSoundSlot, IsSoundAt, AreSound}

pub slot_written : (id : Text) (s : Slot) (m : Records) (q : Text) → slot_at q (with_slot id s m) ≡ cond (bytes_eq id q) (Some s) (slot_at q m)
slot_written id s m q =
    finmap.get-insert nat_list_cmp_total m id s q ∙ ap (λ b. cond b (Some s) (slot_at q m)) (is_eq-slice_cmp q id ∙ nat_list_eq_equiv.symm q id)

-- what holds of the slot at each id, and of one that is written
pub written_so : (P : Text → Option Slot → Type 0) (id : Text) (s : Slot) (m : Records) → P id (Some s) → ((q : Text) → bytes_eq id q ≡ false → P q (slot_at q m)) → (q : Text) → P q (slot_at q (with_slot id s m))
written_so P id s m here before q = subst (P q) (sym (slot_written id s m q)) (at (bytes_eq id q) refl)
  where
    at : (b : Bool) → bytes_eq id q ≡ b → P q (cond b (Some s) (slot_at q m))
    at true e = subst (λ x. P x (Some s)) ((bytes_eq-Decides id q).0 e) here
    at false e = before q e

-- what holds of what there is
abbrev pub Of : {X : Type 0} → (X → Type 0) → Option X → Type 0
Of P None = Unit {0}
Of P (Some x) = P x

pub of_and_then : {X Y : Type 0} (P : X → Type 0) (Q : Y → Type 0) (f : X → Option Y) (o : Option X) → Of P o → ((x : X) → P x → Of Q (f x)) → Of Q (option_and_then f o)
of_and_then P Q f None h g = tt
of_and_then P Q f (Some x) h g = g x h

module _ (object : Text → Bool) where
  pub with_slot_sound : (id : Text) (s : Slot) (m : Records) → IsId id → IsSoundSlot object id s → AreSound object m → AreSound object (with_slot id s m)
  with_slot_sound id s m is sound all = record { each = written_so (IsSoundAt object) id s m (is, sound) (λ q e. all.each q) }

  pub with_record_sound : (id : Text) (r : Record) (m : Records) → IsId id → IsSoundRecord object r → AreSound object m → AreSound object (with_record id r m)
  with_record_sound id r m is sound all = with_slot_sound id (Alive r) m is sound all

  alive_sound : (id : Text) (o : Option Slot) → IsSoundAt object id o → Of (λ r. IsId id × IsSoundRecord object r) (option_and_then alive o)
  alive_sound id None h = tt
  alive_sound id (Some Deleted) h = tt
  alive_sound id (Some (Alive r)) h = h

  -- a live record, and its id
  pub live_sound : (id : Text) (m : Records) → AreSound object m → Of (λ r. IsId id × IsSoundRecord object r) (live id m)
  live_sound id m all = alive_sound id (slot_at id m) (all.each id)

  -- ---- sweeps

  ties_alone : IsAntisymmetric (slice_cmp nat_cmp)
  ties_alone = slice_cmp-IsAntisymmetric nat_cmp-IsAntisymmetric

  left_sound : (id : Text) (b : Bool) (o : Option Slot) → IsSoundAt object id o → IsSoundAt object id (cond b o None)
  left_sound id true o h = h
  left_sound id false o h = tt

  pub sweep_sound : (keep : Text → Bool) (m : Records) → AreSound object m → AreSound object (sweep keep m)
  sweep_sound keep m all = record {
    each = λ id. subst (IsSoundAt object id) (sym (get-retain_keys m keep id (λ x e. ap keep (sym (ties_alone id x e))))) (left_sound id (keep id) (slot_at id m) (all.each id));
  }

  pub none_sound : AreSound object no_records
  none_sound = record { each = λ id. subst (IsSoundAt object id) (sym (finmap.get-empty (slice_cmp nat_cmp) id)) tt }
