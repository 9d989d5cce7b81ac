-- A reach that comes into a set that is not led out of stays in it; outside of it the map is as before.
use Rattle.std.proofs.Common.{◌≡◌, ℕ, zero, suc, Bool, true, false, cond, ◌⊎◌, inl, inr, List, [], ◌∷◌, Option, Some, None, refl, sym, subst}
use Rattle.store_model.specs.gql_plain.Order.{has_text}
use Rattle.store_model.specs.store_record.Keys.{Text}
use Rattle.store_model.specs.store_record.declared.field.Field.{Field}
use Rattle.store_model.specs.store_record.declared.record.Slot.{Slot}
use Rattle.store_model.specs.store_record.declared.record.Slot.TheVariants.{Deleted, Alive}
use Rattle.store_model.proofs.Least.{Each, each_append, each_left, each_right, each_so}
use Rattle.store_model.specs.Items.{Ask, key_of, handle_of, Group, asks, parts, Collect, groups_at}
use Rattle.store_model.specs.Reaches.{Onward, types_of, links_of, links_under, links_followed, from_each, reach_asked, reach_groups, reach_stand, reach_at}
use Rattle.store_model.specs.Records.{field_at}
use Rattle.store_model.specs.Walks.{Slots, Fields, Standing, absent, gone, lives, standing_of, field_of}
use Rattle.store_sweeps.specs.Swept.{Held, FieldStays, Stays}
use Rattle.store_sweeps.proofs.Fields.{Of, field_at_stays}

-- ---- within the set

module _ (Q : Text → Bool) where
  from_held : (next : Text → List Text) → ((id : Text) → Q id ≡ true → Each (Held Q) (next id)) → (ids : List Text) → Each (Held Q) ids → Each (Held Q) (from_each next ids)
  from_held next good [] h = tt
  from_held next good (id ∷ ids) h = each_append (Held Q) (next id) (from_each next ids) (good id h.0) (from_held next good ids h.1)

  field_links : (key : Text) (o : Option Field) → Of (λ f. FieldStays Q (key, f)) o → Each (Held Q) (links_of o)
  field_links key None h = tt
  field_links key (Some f) h = h.0

  slot_links : (o : Option Slot) → Stays Q o → (key : Text) → Each (Held Q) (links_of (field_of o key))
  slot_links None h key = tt
  slot_links (Some Deleted) h key = tt
  slot_links (Some (Alive r)) h key = field_links key (field_at key r) (field_at_stays Q key r h)

  module _ {F : Type 0} (next : Onward F) (good : (types : List Text) (fs : List F) (id : Text) → Q id ≡ true → Each (Held Q) (next types fs id))
      (fields : Fields) (links : (key : Text) → Each (Held Q) (links_of (fields key))) where
    under_links : (o : Option Text) → Each (Held Q) (links_under fields o)
    under_links None = tt
    under_links (Some key) = links key

    asked_held : (fs : List F) (us : List Ask) → Each (Held Q) (reach_asked next fields fs us)
    asked_held fs [] = tt
    asked_held fs (a ∷ us) =
        each_append (Held Q) (from_each (next (types_of a.form) fs) (links_followed fields a)) (reach_asked next fields fs us)
        (from_held (next (types_of a.form) fs) (good (types_of a.form) fs) (links_followed fields a)
        (each_append (Held Q) (links_of (fields (key_of a))) (links_under fields (handle_of a)) (links (key_of a)) (under_links (handle_of a))))
        (asked_held fs us)

    groups_held : (gs : List (Group F)) → Each (Held Q) (reach_groups next fields gs)
    groups_held [] = tt
    groups_held (g ∷ gs) = each_append (Held Q) (reach_asked next fields (parts g) (asks g)) (reach_groups next fields gs) (asked_held (parts g) (asks g)) (groups_held gs)

    possible_held : (b : Bool) (gs : List (Group F)) → Each (Held Q) (cond b (reach_groups next fields gs) [])
    possible_held true gs = groups_held gs
    possible_held false gs = tt

    stand_held : (collect : Collect F) (typed : Text → Text) (types : List Text) (fs : List F) (s : Standing) → Each (Held Q) (reach_stand collect typed next types fs s fields)
    stand_held collect typed types fs absent = tt
    stand_held collect typed types fs gone = tt
    stand_held collect typed types fs (lives name) = possible_held (has_text types (typed name)) (groups_at collect (typed name) fs)

-- ---- what holds along one walk leads to what holds along another

module _ (P R : Text → Type 0) where
  from_so : (next other : Text → List Text) → ((id : Text) → Each P (next id) → Each R (other id)) → (ids : List Text) → Each P (from_each next ids) → Each R (from_each other ids)
  from_so next other so [] h = tt
  from_so next other so (id ∷ ids) h =
      each_append R (other id) (from_each other ids) (so id (each_left P (next id) (from_each next ids) h)) (from_so next other so ids (each_right P (next id) (from_each next ids) h))

  module _ {F : Type 0} (next other : Onward F) (so : (types : List Text) (fs : List F) (id : Text) → Each P (next types fs id) → Each R (other types fs id)) (fields : Fields) where
    asked_so : (fs : List F) (us : List Ask) → Each P (reach_asked next fields fs us) → Each R (reach_asked other fields fs us)
    asked_so fs [] h = tt
    asked_so fs (a ∷ us) h =
        each_append R (from_each (other (types_of a.form) fs) (links_followed fields a)) (reach_asked other fields fs us)
        (from_so (next (types_of a.form) fs) (other (types_of a.form) fs) (so (types_of a.form) fs) (links_followed fields a)
        (each_left P (from_each (next (types_of a.form) fs) (links_followed fields a)) (reach_asked next fields fs us) h))
        (asked_so fs us (each_right P (from_each (next (types_of a.form) fs) (links_followed fields a)) (reach_asked next fields fs us) h))

    groups_so : (gs : List (Group F)) → Each P (reach_groups next fields gs) → Each R (reach_groups other fields gs)
    groups_so [] h = tt
    groups_so (g ∷ gs) h =
        each_append R (reach_asked other fields (parts g) (asks g)) (reach_groups other fields gs)
        (asked_so (parts g) (asks g) (each_left P (reach_asked next fields (parts g) (asks g)) (reach_groups next fields gs) h))
        (groups_so gs (each_right P (reach_asked next fields (parts g) (asks g)) (reach_groups next fields gs) h))

    possible_so : (b : Bool) (gs : List (Group F)) → Each P (cond b (reach_groups next fields gs) []) → Each R (cond b (reach_groups other fields gs) [])
    possible_so true gs h = groups_so gs h
    possible_so false gs h = tt

    stand_so : (collect : Collect F) (typed : Text → Text) (types : List Text) (fs : List F) (s : Standing) → Each P (reach_stand collect typed next types fs s fields)
        → Each R (reach_stand collect typed other types fs s fields)
    stand_so collect typed types fs absent h = tt
    stand_so collect typed types fs gone h = tt
    stand_so collect typed types fs (lives name) h = possible_so (has_text types (typed name)) (groups_at collect (typed name) fs) h

-- ---- a base, and a map that is like it outside of the set

module _ {F : Type 0} (collect : Collect F) (typed : Text → Text) (Q : Text → Bool) (base m : Slots) (P : Text → Type 0)
    (stays : (id : Text) → Q id ≡ true → Stays Q (m id)) (outside : (id : Text) → Q id ≡ false → m id ≡ base id) where
  -- in the set, or in the reach in the base
  abbrev pub Either : Text → Type 0
  Either id = (Q id ≡ true) ⊎ P id

  pub reach_held : (depth : ℕ) (types : List Text) (fs : List F) (id : Text) → Q id ≡ true → Each (Held Q) (reach_at collect typed m depth types fs id)
  reach_held zero types fs id h = (h, tt)
  reach_held (suc depth) types fs id h =
      (h, stand_held Q (reach_at collect typed m depth) (reach_held depth) (field_of (m id)) (slot_links Q (m id) (stays id h)) collect typed types fs (standing_of (m id)))

  pub reach_either : (depth : ℕ) (types : List Text) (fs : List F) (id : Text) → Each P (reach_at collect typed base depth types fs id) → Each Either (reach_at collect typed m depth types fs id)
  reach_either zero types fs id h = (inr h.0, tt)
  reach_either (suc depth) types fs id h = at (Q id) refl (reach_either depth)
    where
      at : (b : Bool) → Q id ≡ b
          → ((types : List Text) (fs : List F) (id : Text) → Each P (reach_at collect typed base depth types fs id) → Each Either (reach_at collect typed m depth types fs id))
          → Each Either (reach_at collect typed m (suc depth) types fs id)
      at true e rest = each_so (Held Q) Either (reach_at collect typed m (suc depth) types fs id) (λ j k. inl k) (reach_held (suc depth) types fs id e)
      at false e rest = (
        inr h.0,
        subst (λ s. Each Either (reach_stand collect typed (reach_at collect typed m depth) types fs (standing_of s) (field_of s))) (sym (outside id e))
            (stand_so P Either (reach_at collect typed base depth) (reach_at collect typed m depth) rest (field_of (base id)) collect typed types fs (standing_of (base id)) h.1),
      )
