-- Fields and records that do not lead out of a set.
use Rattle.std.proofs.Common.{◌≡◌, Bool, true, false, cond, List, [], ◌∷◌, Option, Some, None, codes, refl, sym, ap, subst, ◌∙◌, option_map, option_and_then, unwrap_or, bytes_eq, Ordering, Less, Equal, Greater, is_eq}
use Rattle.std.proofs.lemmas.Map.Text.{is_eq-slice_cmp}
use Rattle.std.proofs.lemmas.Slice.Eq.{bytes_eq-Decides}
use Rattle.std.specs.Cmp.Lexicographic.{slice_cmp}
use Rattle.std.specs.FinMap.Entries.{by_order, put as put_entry}
use Rattle.std.specs.Map.{lookup}
use Rattle.std.specs.Ordering.{nat_cmp}
use Rattle.store_model.specs.store_record.Keys.{Text}
use Rattle.store_model.specs.store_record.declared.field.Field.{Field}
use Rattle.store_model.specs.store_record.declared.field.Field.TheVariants.{Leaf, Link, Links}
use Rattle.store_model.specs.store_record.declared.record.Record.{Record}
use Rattle.store_model.specs.store_record.declared.record.Slot.{Slot}
use Rattle.store_model.specs.store_record.declared.record.Slot.TheVariants.{Deleted, Alive}
use Rattle.store_model.proofs.Least.{Each}
use Rattle.store_model.specs.Entries.{some_id, some_ids}
use Rattle.store_model.specs.Merge.{link_of, links_of, link_under, edges_of, with_live, below, info_id}
use Rattle.store_model.specs.Records.{Records, slot_at, alive, live, field_at, with_field}
use Rattle.store_sweeps.specs.Swept.{is_handle, Held, FieldStays, FieldsStay, Stays, AreWithin}

-- what holds of what there is
abbrev pub Of : {X : Type 0} → (X → Type 0) → Option X → Type 0
Of P None = Unit {0}
Of P (Some x) = P x

pub of_and_then : {X Y : Type 0} (P : X → Type 0) (Q : Y → Type 0) (f : X → Option Y) (o : Option X) → Of P o → ((x : X) → P x → Of Q (f x)) → Of Q (option_and_then f o)
of_and_then P Q f None h g = tt
of_and_then P Q f (Some x) h g = g x h

module _ (Q : Text → Bool) where
  same_key : (key : Text) (f : Field) (other : Text) → slice_cmp nat_cmp key other ≡ Equal → FieldStays Q (key, f) → FieldStays Q (other, f)
  same_key key f other e h = subst (λ k. FieldStays Q (k, f)) ((bytes_eq-Decides key other).0 (sym (is_eq-slice_cmp key other) ∙ ap is_eq e)) h

  fields_put : (key : Text) (f : Field) (fs : List (Text × Field)) → FieldStays Q (key, f) → FieldsStay Q fs → FieldsStay Q (put_entry (slice_cmp nat_cmp) key f fs)
  fields_put key f [] h all = (h, tt)
  fields_put key f (e ∷ es) h all = at (slice_cmp nat_cmp key e.0) refl (fields_put key f es h all.1)
    where
      at : (o : Ordering) → slice_cmp nat_cmp key e.0 ≡ o → FieldsStay Q (put_entry (slice_cmp nat_cmp) key f es)
          → FieldsStay Q (by_order o ((key, f) ∷ e ∷ es) ((e.0, f) ∷ es) (e ∷ put_entry (slice_cmp nat_cmp) key f es))
      at Less is rest = (h, all)
      at Equal is rest = (same_key key f e.0 is h, all.1)
      at Greater is rest = (all.0, rest)

  pub with_field_stays : (key : Text) (f : Field) (r : Record) → FieldStays Q (key, f) → FieldsStay Q r.fields → FieldsStay Q (with_field key f r).fields
  with_field_stays key f r h all = fields_put key f r.fields h all

  found_stays : (key : Text) (fs : List (Text × Field)) → FieldsStay Q fs → Of (λ f. FieldStays Q (key, f)) (lookup (λ k. bytes_eq k key) fs)
  found_stays key [] all = tt
  found_stays key (e ∷ es) all = at (bytes_eq e.0 key) refl (found_stays key es all.1)
    where
      at : (b : Bool) → bytes_eq e.0 key ≡ b → Of (λ f. FieldStays Q (key, f)) (lookup (λ k. bytes_eq k key) es) → Of (λ f. FieldStays Q (key, f)) (cond b (Some e.1) (lookup (λ k. bytes_eq k key) es))
      at true is later = subst (λ k. FieldStays Q (k, e.1)) ((bytes_eq-Decides e.0 key).0 is) all.0
      at false is later = later

  pub field_at_stays : (key : Text) (r : Record) → FieldsStay Q r.fields → Of (λ f. FieldStays Q (key, f)) (field_at key r)
  field_at_stays key r all = found_stays key r.fields all

  -- ---- links

  link_held : (key : Text) (f : Field) → FieldStays Q (key, f) → Of (Held Q) (link_of f)
  link_held key (Leaf value) h = tt
  link_held key (Link id) h = h.0.0
  link_held key (Links ids) h = tt

  link_info : (key : Text) (f : Field) → is_handle key ≡ true → FieldStays Q (key, f) → Of (λ id. Q (info_id id) ≡ true) (link_of f)
  link_info key (Leaf value) handle h = tt
  link_info key (Link id) handle h = (h.1 handle).0
  link_info key (Links ids) handle h = tt

  links_held : (key : Text) (f : Field) → FieldStays Q (key, f) → Each (Held Q) (some_ids (links_of f))
  links_held key (Leaf value) h = tt
  links_held key (Link id) h = tt
  links_held key (Links ids) h = h.0

  pub under_held : (key : Text) (r : Record) → FieldsStay Q r.fields → Of (Held Q) (link_under key r)
  under_held key r all = of_and_then (λ f. FieldStays Q (key, f)) (Held Q) link_of (field_at key r) (field_at_stays key r all) (link_held key)

  pub under_info : (key : Text) (r : Record) → is_handle key ≡ true → FieldsStay Q r.fields → Of (λ id. Q (info_id id) ≡ true) (link_under key r)
  under_info key r handle all =
      of_and_then (λ f. FieldStays Q (key, f)) (λ id. Q (info_id id) ≡ true) link_of (field_at key r) (field_at_stays key r all) (λ f h. link_info key f handle h)

  pub edges_held : (r : Record) → FieldsStay Q r.fields → Each (Held Q) (some_ids (edges_of r))
  edges_held r all = at (field_at (codes "edges") r) (field_at_stays (codes "edges") r all)
    where
      at : (o : Option Field) → Of (λ f. FieldStays Q (codes "edges", f)) o → Each (Held Q) (some_ids (unwrap_or (option_map links_of o) []))
      at None h = tt
      at (Some f) h = links_held (codes "edges") f h

  -- ---- live records

  alive_stays : (o : Option Slot) → Stays Q o → Of (λ r. FieldsStay Q r.fields) (option_and_then alive o)
  alive_stays None h = tt
  alive_stays (Some Deleted) h = tt
  alive_stays (Some (Alive r)) h = h

  abbrev pub InfoHeld : Text × Record → Type 0
  InfoHeld p = Q (info_id p.0) ≡ true

  -- the id and the record of what is live in the set
  abbrev pub Lives : Text × Record → Type 0
  Lives p = (Q p.0 ≡ true) × FieldsStay Q p.1.fields

  module _ (m n : Records) (within : AreWithin Q m n) where
    pub live_stays : (id : Text) → Q id ≡ true → Of (λ r. FieldsStay Q r.fields) (live id m)
    live_stays id h = alive_stays (slot_at id m) (within.stays id h)

    with_live_stays : (id : Text) → Q id ≡ true → Of Lives (with_live m id)
    with_live_stays id h = at (live id m) (live_stays id h)
      where
        at : (o : Option Record) → Of (λ r. FieldsStay Q r.fields) o → Of Lives (option_map (λ r. (id, r)) o)
        at None k = tt
        at (Some r) k = (h, k)

    pub below_stays : (key : Text) (r : Record) → FieldsStay Q r.fields → Of Lives (below key r m)
    below_stays key r all = of_and_then (Held Q) Lives (with_live m) (link_under key r) (under_held key r all) with_live_stays

    -- under a handle key the page information of the one below is in the set
    pub below_info : (key : Text) (r : Record) → is_handle key ≡ true → FieldsStay Q r.fields → Of InfoHeld (below key r m)
    below_info key r handle all =
        of_and_then (λ id. Q (info_id id) ≡ true) InfoHeld (with_live m) (link_under key r) (under_info key r handle all) (λ id h. at id h (live id m))
      where
        at : (id : Text) → Q (info_id id) ≡ true → (o : Option Record) → Of InfoHeld (option_map (λ r. (id, r)) o)
        at id h None = tt
        at id h (Some r) = h

-- what holds of an id that may be there, as of a list
pub each_some : (P : Text → Type 0) (o : Option Text) → Of P o → Each P (some_id o)
each_some P None h = tt
each_some P (Some id) h = (h, tt)
