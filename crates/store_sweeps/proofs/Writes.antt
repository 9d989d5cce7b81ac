-- Writes onto two maps.
use Rattle.std.proofs.Common.{◌≡◌, Bool, true, false, true≢false, cond, ◌||◌, ◌⊎◌, inl, inr, List, [], ◌∷◌, Option, Some, None, refl, sym, ap, subst, ◌∙◌, option_and_then, unwrap_or, is_some, bytes_eq}
use Rattle.std.proofs.lemmas.Map.Text.{is_eq-slice_cmp}
use Rattle.std.specs.Cmp.Lexicographic.{nat_list_cmp_total, nat_list_eq_equiv}
use Rattle.std.specs.FinMap as finmap
use Rattle.store_model.specs.gql_plain.Order.{has_text}
use Rattle.store_model.specs.store_record.Keys.{Text}
use Rattle.store_model.specs.store_record.declared.field.Field.{Field}
use Rattle.store_model.specs.store_record.declared.record.Record.{Record}
use Rattle.store_model.specs.store_record.declared.record.Slot.{Slot}
use Rattle.store_model.specs.store_record.declared.record.Slot.TheVariants.{Deleted, Alive}
use Rattle.store_model.proofs.Least.{Each, In, each_so, or_right}
use Rattle.store_model.specs.Enough.{SameAt}
use Rattle.store_model.specs.Entries.{ids_in, some_id}
use Rattle.store_model.specs.Merge.{link_of, info_id}
use Rattle.store_model.specs.Records.{Records, slot_at, alive, with_slot}
use Rattle.store_sweeps.specs.Swept.{Held, FieldStays, FieldsStay, SlotStays, Stays, AreWithin, write_all, ids_written, grown, Goes}

-- ---- tests

pub or_left : (a b : Bool) → a ≡ true → (a || b) ≡ true
or_left true b h = refl
or_left false b h = absurd (true≢false (sym h))

left_false : (a b : Bool) → (a || b) ≡ false → a ≡ false
left_false true b h = h
left_false false b h = refl

right_false : (a b : Bool) → (a || b) ≡ false → b ≡ false
right_false true b h = absurd (true≢false h)
right_false false b h = h

both_false : (a b : Bool) → a ≡ false → b ≡ false → (a || b) ≡ false
both_false true b h k = h
both_false false b h k = k

-- ---- one write

slot_written : (id : Text) (s : Slot) (m : Records) (q : Text) → slot_at q (with_slot id s m) ≡ cond (bytes_eq id q) (Some s) (slot_at q m)
slot_written id s m q =
    finmap.get-insert nat_list_cmp_total m id s q ∙ ap (λ b. cond b (Some s) (slot_at q m)) (is_eq-slice_cmp q id ∙ nat_list_eq_equiv.symm q id)

same_write : (id : Text) (s : Slot) (m n : Records) (q : Text) → SameAt m n q → SameAt (with_slot id s m) (with_slot id s n) q
same_write id s m n q h = slot_written id s m q ∙ ap (cond (bytes_eq id q) (Some s)) h ∙ sym (slot_written id s n q)

here_write : (id : Text) (s : Slot) (m n : Records) (q : Text) → bytes_eq id q ≡ true → SameAt (with_slot id s m) (with_slot id s n) q
here_write id s m n q e =
    slot_written id s m q ∙ ap (λ b. cond b (Some s) (slot_at q m)) e ∙ sym (slot_written id s n q ∙ ap (λ b. cond b (Some s) (slot_at q n)) e)

stays_write : (Q : Text → Bool) (id : Text) (s : Slot) (m : Records) (q : Text) → SlotStays Q s → (bytes_eq id q ≡ false → Stays Q (slot_at q m)) → Stays Q (slot_at q (with_slot id s m))
stays_write Q id s m q here before = subst (Stays Q) (sym (slot_written id s m q)) (at (bytes_eq id q) before)
  where
    at : (b : Bool) → (b ≡ false → Stays Q (slot_at q m)) → Stays Q (cond b (Some s) (slot_at q m))
    at true h = here
    at false h = h refl

-- ---- several

pub same_writes : (ws : List (Text × Slot)) (m n : Records) (q : Text) → SameAt m n q → SameAt (write_all ws m) (write_all ws n) q
same_writes [] m n q h = h
same_writes (w ∷ ws) m n q h = same_writes ws (with_slot w.0 w.1 m) (with_slot w.0 w.1 n) q (same_write w.0 w.1 m n q h)

pub same_written : (ws : List (Text × Slot)) (m n : Records) (q : Text) → In q (ids_written ws) → SameAt (write_all ws m) (write_all ws n) q
same_written [] m n q h = absurd (true≢false (sym h))
same_written (w ∷ ws) m n q h =
    elim (bytes_eq w.0 q) as (λ b. bytes_eq w.0 q ≡ b → (b || has_text (ids_written ws) q) ≡ true → SameAt (write_all (w ∷ ws) m) (write_all (w ∷ ws) n) q) [
      | true ↦ λ e _. same_writes ws (with_slot w.0 w.1 m) (with_slot w.0 w.1 n) q (here_write w.0 w.1 m n q e)
      | false ↦ λ _ later. same_written ws (with_slot w.0 w.1 m) (with_slot w.0 w.1 n) q later
    ] refl h

pub unwritten : (ws : List (Text × Slot)) (m : Records) (q : Text) → has_text (ids_written ws) q ≡ false → SameAt (write_all ws m) m q
unwritten [] m q h = refl
unwritten (w ∷ ws) m q h =
    unwritten ws (with_slot w.0 w.1 m) q (right_false (bytes_eq w.0 q) (has_text (ids_written ws) q) h)
    ∙ slot_written w.0 w.1 m q ∙ ap (λ b. cond b (Some w.1) (slot_at q m)) (left_false (bytes_eq w.0 q) (has_text (ids_written ws) q) h)

pub stays_writes : (Q : Text → Bool) (ws : List (Text × Slot)) (m : Records) (q : Text) → Each (λ w. SlotStays Q w.1) ws → (has_text (ids_written ws) q ≡ false → Stays Q (slot_at q m))
    → Stays Q (slot_at q (write_all ws m))
stays_writes Q [] m q all before = before refl
stays_writes Q (w ∷ ws) m q all before =
    stays_writes Q ws (with_slot w.0 w.1 m) q all.1
    (λ later. stays_write Q w.0 w.1 m q all.0 (λ here. before (both_false (bytes_eq w.0 q) (has_text (ids_written ws) q) here later)))

-- ---- larger sets

module _ (P Q : Text → Bool) (wide : (id : Text) → P id ≡ true → Q id ≡ true) where
  pub field_wider : (f : Text × Field) → FieldStays P f → FieldStays Q f
  field_wider f h = (
    each_so (Held P) (Held Q) (ids_in f.1) wide h.0,
    λ handle. each_so (λ id. P (info_id id) ≡ true) (λ id. Q (info_id id) ≡ true) (some_id (link_of f.1)) (λ id. wide (info_id id)) (h.1 handle),
  )

  pub fields_wider : (fs : List (Text × Field)) → FieldsStay P fs → FieldsStay Q fs
  fields_wider fs h = each_so (FieldStays P) (FieldStays Q) fs field_wider h

  pub slot_wider : (s : Slot) → SlotStays P s → SlotStays Q s
  slot_wider Deleted h = tt
  slot_wider (Alive row) h = fields_wider row.fields h

  pub stays_wider : (o : Option Slot) → Stays P o → Stays Q o
  stays_wider None h = tt
  stays_wider (Some s) h = slot_wider s h

-- ---- from maps to what the same writes make of them

pub grown_wide : (holds : Text → Bool) (ws : List (Text × Slot)) (id : Text) → holds id ≡ true → grown holds ws id ≡ true
grown_wide holds ws id h = or_left (holds id) (has_text (ids_written ws) id) h

pub grown_new : (holds : Text → Bool) (ws : List (Text × Slot)) (id : Text) → In id (ids_written ws) → grown holds ws id ≡ true
grown_new holds ws id h = or_right (holds id) (has_text (ids_written ws) id) h

pub goes_written : (holds : Text → Bool) (ws : List (Text × Slot)) (m n : Records) → AreWithin holds m n → Each (λ w. SlotStays (grown holds ws) w.1) ws
    → Goes holds m n (write_all ws m) (write_all ws n)
goes_written holds ws m n within good = record {
  larger = grown holds ws;
  wider = grown_wide holds ws;
  within = record { same = same_at; stays = stays_at };
  same = same_writes ws m n;
  outside = λ id out.
      let off = right_false (holds id) (has_text (ids_written ws) id) out in
      (unwritten ws m id off, unwritten ws n id off);
}
  where
    either : (id : Text) → grown holds ws id ≡ true → (b : Bool) → has_text (ids_written ws) id ≡ b → (In id (ids_written ws)) ⊎ ((has_text (ids_written ws) id ≡ false) × (holds id ≡ true))
    either id h true e = inl e
    either id h false e = inr (e, held (holds id) (subst (λ b. (holds id || b) ≡ true) e h))
      where
        held : (a : Bool) → (a || false) ≡ true → a ≡ true
        held true k = refl
        held false k = k

    same_at : (id : Text) → grown holds ws id ≡ true → SameAt (write_all ws m) (write_all ws n) id
    same_at id h = by (either id h (has_text (ids_written ws) id) refl)
      where
        by : (In id (ids_written ws)) ⊎ ((has_text (ids_written ws) id ≡ false) × (holds id ≡ true)) → SameAt (write_all ws m) (write_all ws n) id
        by (inl e) = same_written ws m n id e
        by (inr k) = same_writes ws m n id (within.same id k.1)

    stays_at : (id : Text) → grown holds ws id ≡ true → Stays (grown holds ws) (slot_at id (write_all ws m))
    stays_at id h =
        stays_writes (grown holds ws) ws m id good (λ off. stays_wider holds (grown holds ws) (grown_wide holds ws) (slot_at id m) (within.stays id (held (holds id) (subst (λ b. (holds id || b) ≡ true) off h))))
      where
        held : (a : Bool) → (a || false) ≡ true → a ≡ true
        held true k = refl
        held false k = k

pub goes_nowhere : (holds : Text → Bool) (m n : Records) → AreWithin holds m n → Goes holds m n m n
goes_nowhere holds m n within = record { larger = holds; wider = λ id h. h; within = within; same = λ id h. h; outside = λ id out. (refl, refl) }

pub goes_on : (holds : Text → Bool) (m n a b c d : Records) → (g : Goes holds m n a b) → Goes g.larger a b c d → Goes holds m n c d
goes_on holds m n a b c d g k = record {
  larger = k.larger;
  wider = λ id h. k.wider id (g.wider id h);
  within = k.within;
  same = λ id h. k.same id (g.same id h);
  outside = λ id out.
      let here = k.outside id out in
      let before = g.outside id (not_held (g.larger id) (k.wider id) out) in
      (here.0 ∙ before.0, here.1 ∙ before.1);
}
  where
    not_held : (x : Bool) → {y : Bool} → (x ≡ true → y ≡ true) → y ≡ false → x ≡ false
    not_held true f e = absurd (true≢false (sym (f refl) ∙ e))
    not_held false f e = refl

-- ---- a live record

pub row_stays : (Q : Text → Bool) (o : Option Slot) (row : Record) → option_and_then alive o ≡ Some row → Stays Q o → FieldsStay Q row.fields
row_stays Q None row e h = absurd (true≢false (sym (ap is_some e)))
row_stays Q (Some Deleted) row e h = absurd (true≢false (sym (ap is_some e)))
row_stays Q (Some (Alive here)) row e h = subst (λ r. FieldsStay Q r.fields) (ap (λ o. unwrap_or o here) e) h
