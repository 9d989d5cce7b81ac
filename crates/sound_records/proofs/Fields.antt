-- Fields of sound records.
use Rattle.std.proofs.Common.{◌≡◌, Bool, true, false, cond, List, [], ◌∷◌, Option, Some, None, codes, refl, sym, ap, subst, ◌∙◌, option_map, option_and_then, unwrap_or, bytes_eq, Ordering, Less, Equal, Greater, is_eq}
use Rattle.std.proofs.lemmas.Map.Text.{is_eq-slice_cmp}
use Rattle.std.proofs.lemmas.Slice.Eq.{bytes_eq-Decides}
use Rattle.std.specs.Cmp.Lexicographic.{slice_cmp}
use Rattle.std.specs.FinMap.Entries.{by_order, put as put_entry}
use Rattle.std.specs.List.Sorted.{IsStrictlySortedBy}
use Rattle.std.specs.Map.{keys_of, lookup}
use Rattle.std.specs.Ordering.{nat_cmp}
use Rattle.store_model.specs.gql_plain.Order.{AreInOrder}
use Rattle.store_model.specs.store_record.Keys.{Text}
use Rattle.store_model.specs.store_record.declared.field.Field.{Field}
use Rattle.store_model.specs.store_record.declared.field.Field.TheVariants.{Leaf, Link, Links}
use Rattle.store_model.specs.store_record.declared.record.Record.{Record}
use Rattle.store_model.proofs.Least.{Each}
use Rattle.store_model.specs.Entries.{some_ids}
use Rattle.store_model.specs.Merge.{link_of, links_of, link_under, edges_of, with_live, below}
use Rattle.store_model.specs.Records.{Records, live, field_at, with_field, record_of}
use Rattle.store_record.proofs.Puts.{AreInOrder-put}
use Rattle.sound_records.specs.Sound.{IsId, is_record_type, IsSoundField, IsSoundRecord, AreSound}
use Rattle.sound_records.proofs.Slots.{Of, live_sound}

-- ---- putting a field

same_key : (key : Text) (f : Field) (other : Text) → slice_cmp nat_cmp key other ≡ Equal → IsSoundField (key, f) → IsSoundField (other, f)
same_key key f other e h = subst (λ k. IsSoundField (k, f)) ((bytes_eq-Decides key other).0 (sym (is_eq-slice_cmp key other) ∙ ap is_eq e)) h

pub fields_put : (key : Text) (f : Field) (fs : List (Text × Field)) → IsSoundField (key, f) → Each IsSoundField fs → Each IsSoundField (put_entry (slice_cmp nat_cmp) key f fs)
fields_put key f [] h all = (h, tt)
fields_put key f (e ∷ es) h all = at (slice_cmp nat_cmp key e.0) refl (fields_put key f es h all.1)
  where
    at : (o : Ordering) → slice_cmp nat_cmp key e.0 ≡ o → Each IsSoundField (put_entry (slice_cmp nat_cmp) key f es)
        → Each IsSoundField (by_order o ((key, f) ∷ e ∷ es) ((e.0, f) ∷ es) (e ∷ put_entry (slice_cmp nat_cmp) key f es))
    at Less is rest = (h, all)
    at Equal is rest = (same_key key f e.0 is h, all.1)
    at Greater is rest = (all.0, rest)

found_sound : (key : Text) (fs : List (Text × Field)) → Each IsSoundField fs → Of (λ f. IsSoundField (key, f)) (lookup (λ k. bytes_eq k key) fs)
found_sound key [] all = tt
found_sound key (e ∷ es) all = at (bytes_eq e.0 key) refl (found_sound key es all.1)
  where
    at : (b : Bool) → bytes_eq e.0 key ≡ b → Of (λ f. IsSoundField (key, f)) (lookup (λ k. bytes_eq k key) es) → Of (λ f. IsSoundField (key, f)) (cond b (Some e.1) (lookup (λ k. bytes_eq k key) es))
    at true is later = subst (λ k. IsSoundField (k, e.1)) ((bytes_eq-Decides e.0 key).0 is) all.0
    at false is later = later

-- no field is out of order
pub none_in_order : AreInOrder (keys_of (record_of []).fields)
unfolding IsStrictlySortedBy
none_in_order = tt

module _ (object : Text → Bool) where
  pub with_field_sound : (key : Text) (f : Field) (r : Record) → IsSoundField (key, f) → IsSoundRecord object r → IsSoundRecord object (with_field key f r)
  with_field_sound key f r h all = record { named = all.named; fields = fields_put key f r.fields h all.fields; order = AreInOrder-put key f r.fields all.order }

  pub record_of_sound : (name : Text) → is_record_type object name ≡ true → IsSoundRecord object (record_of name)
  record_of_sound name e = record { named = e; fields = tt; order = none_in_order }

  pub field_at_sound : (key : Text) (r : Record) → IsSoundRecord object r → Of (λ f. IsSoundField (key, f)) (field_at key r)
  field_at_sound key r all = found_sound key r.fields all.fields

  -- ---- links

  link_is : (key : Text) (f : Field) → IsSoundField (key, f) → Of IsId (link_of f)
  link_is key (Leaf value) h = tt
  link_is key (Link id) h = h.1.0
  link_is key (Links ids) h = tt

  links_are : (key : Text) (f : Field) → IsSoundField (key, f) → Each IsId (some_ids (links_of f))
  links_are key (Leaf value) h = tt
  links_are key (Link id) h = tt
  links_are key (Links ids) h = h.1

  pub edges_are : (r : Record) → IsSoundRecord object r → Each IsId (some_ids (edges_of r))
  edges_are r all = at (field_at (codes "edges") r) (field_at_sound (codes "edges") r all)
    where
      at : (o : Option Field) → Of (λ f. IsSoundField (codes "edges", f)) o → Each IsId (some_ids (unwrap_or (option_map links_of o) []))
      at None h = tt
      at (Some f) h = links_are (codes "edges") f h

  -- ---- live records

  -- the id and the record of what is live
  abbrev pub Lives : Text × Record → Type 0
  Lives p = IsId p.0 × IsSoundRecord object p.1

  pub with_live_sound : (m : Records) → AreSound object m → (id : Text) → Of Lives (with_live m id)
  with_live_sound m all id = at (live id m) (live_sound object id m all)
    where
      at : (o : Option Record) → Of (λ r. IsId id × IsSoundRecord object r) o → Of Lives (option_map (λ r. (id, r)) o)
      at None k = tt
      at (Some r) k = k

  pub below_sound : (m : Records) → AreSound object m → (key : Text) (r : Record) → Of Lives (below key r m)
  below_sound m all key r = at (link_under key r)
    where
      at : (o : Option Text) → Of Lives (option_and_then (with_live m) o)
      at None = tt
      at (Some id) = with_live_sound m all id
