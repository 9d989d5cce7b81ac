-- Facts, put one after another: a record has its type name at the latest when the last fact is put.
use Rattle.std.proofs.Common.{◌≡◌, Bool, true, false, true≢false, cond, ◌&&◌, ◌||◌, ◌⊎◌, inl, inr, List, [], ◌∷◌, Option, Some, None, refl, sym, ap, subst, ◌∙◌, option_and_then, unwrap_or, is_some, bytes_eq}
use Rattle.std.specs.Map.{keys_of}
use Rattle.store_model.specs.gql_plain.Order.{AreInOrder}
use Rattle.store_model.specs.gql_plain.declared.plain.Plain.TheVariants.{Text as Words}
use Rattle.store_model.specs.store_record.Keys.{Text, root}
use Rattle.store_model.specs.store_record.declared.field.Field.{Field}
use Rattle.store_model.specs.store_record.declared.field.Field.TheVariants.{Leaf}
use Rattle.store_model.specs.store_record.declared.record.Record.{Record}
use Rattle.store_model.specs.store_record.declared.record.Slot.{Slot}
use Rattle.store_model.specs.store_record.declared.record.Slot.TheVariants.{Deleted, Alive}
use Rattle.store_model.proofs.Least.{Each}
use Rattle.store_model.specs.Records.{Records, slot_at, alive, live, with_fact, with_field, record_of, put_fact, put, typename, name_given}
use Rattle.store_model.specs.declared.facts.Fact.{Fact}
use Rattle.store_record.proofs.Puts.{AreInOrder-put}
use Rattle.sound_records.specs.Sound.{IsId, is_record_type, IsSoundField, IsSoundAt, IsSoundValue, AreSound, has_fact}
use Rattle.sound_records.proofs.Slots.{slot_written, written_so}
use Rattle.sound_records.proofs.Fields.{fields_put, none_in_order}

-- ---- tests

or_right : (a b : Bool) → (a || b) ≡ true → a ≡ false → b ≡ true
or_right true b h e = absurd (true≢false e)
or_right false b h e = h

and_right : (b : Bool) → (false && b) ≡ false
and_right b = refl

false_or : (a b : Bool) → a ≡ false → (a || b) ≡ b
false_or true b e = absurd (true≢false e)
false_or false b e = refl

false_and : (a b : Bool) → a ≡ false → (a && b) ≡ false
false_and true b e = absurd (true≢false e)
false_and false b e = refl

and_false : (a b : Bool) → b ≡ false → (a && b) ≡ false
and_false true b e = e
and_false false b e = refl

-- of a pair of tests that both hold
and_left : (a b : Bool) → (a && b) ≡ true → a ≡ true
and_left true b h = refl
and_left false b h = h

-- ---- records whose type name may still come

module _ (object : Text → Bool) where
  record IsSoundBut (pending : Bool) (row : Record) : Type 0 where
    named : pending ≡ false → is_record_type object row.type_name ≡ true
    fields : Each IsSoundField row.fields
    order : AreInOrder (keys_of row.fields)

  abbrev SlotBut : Bool → Text → Slot → Type 0
  SlotBut pending id Deleted = bytes_eq id root ≡ false
  SlotBut pending id (Alive row) = IsSoundBut pending row

  abbrev AtBut : (Text → Bool) → Text → Option Slot → Type 0
  AtBut pending id None = Unit {0}
  AtBut pending id (Some slot) = IsId id × SlotBut (pending id) id slot

  record AreBut (pending : Text → Bool) (m : Records) : Type 0 where
    each : (id : Text) → AtBut pending id (slot_at id m)

  -- a fact without what it wants of the others
  record IsFact (f : Fact) : Type 0 where
    of : IsId f.id
    value : IsSoundValue object (bytes_eq f.key typename) f.value

  abbrev comes : List Fact → Text → Bool
  comes fs id = has_fact fs id typename

  -- what a fact says of is live, or its type name comes
  abbrev LiveOrComes : Records → List Fact → Fact → Type 0
  LiveOrComes m fs f = ((r : Record) × (live f.id m ≡ Some r)) ⊎ (comes fs f.id ≡ true)

  -- ---- one fact

  name_is : (name : Text) (value : Field) → value ≡ Leaf (Words name) → is_record_type object name ≡ true → is_record_type object (name_given value) ≡ true
  name_is name value e h = ap (λ v. is_record_type object (name_given v)) e ∙ h

  abbrev old_row : Option Record → Record
  old_row o = unwrap_or o (record_of [])

  row_but : (f : Fact) (pending : Bool) (o : Option Record) → IsFact f → Each IsSoundField (old_row o).fields → AreInOrder (keys_of (old_row o).fields)
      → (bytes_eq f.key typename ≡ false → pending ≡ false → is_record_type object (old_row o).type_name ≡ true) → IsSoundBut pending (with_fact f (old_row o))
  row_but f pending o is fields order named = at (bytes_eq f.key typename) refl is.value
    where
      at : (b : Bool) → bytes_eq f.key typename ≡ b → IsSoundValue object b f.value
          → IsSoundBut pending (cond {A = Record} b (record { type_name = name_given f.value; fields = (old_row o).fields }) (with_field f.key f.value (old_row o)))
      at true e value = record { named = λ _. name_is value.0 f.value value.1 value.2; fields = fields; order = order }
      at false e value = record { named = named e; fields = fields_put f.key f.value (old_row o).fields (e, value) fields; order = AreInOrder-put f.key f.value (old_row o).fields order }

  abbrev before_of : Fact → List Fact → Text → Bool
  before_of f fs id = comes (f ∷ fs) id

  -- of another id no more comes with the fact
  comes_later : (f : Fact) (fs : List Fact) (q : Text) → bytes_eq f.id q ≡ false → comes (f ∷ fs) q ≡ comes fs q
  comes_later f fs q e = false_or (bytes_eq f.id q && bytes_eq f.key typename) (comes fs q) (false_and (bytes_eq f.id q) (bytes_eq f.key typename) e)

  -- nor with a fact under another key
  comes_otherwise : (f : Fact) (fs : List Fact) (q : Text) → bytes_eq f.key typename ≡ false → comes (f ∷ fs) q ≡ comes fs q
  comes_otherwise f fs q e = false_or (bytes_eq f.id q && bytes_eq f.key typename) (comes fs q) (and_false (bytes_eq f.id q) (bytes_eq f.key typename) e)

  at_but : (p q : Bool) (id : Text) (o : Option Slot) → p ≡ q → AtBut (λ _. p) id o → AtBut (λ _. q) id o
  at_but p q id o e h = subst (λ b. AtBut (λ _. b) id o) e h

  at_of : (pending : Text → Bool) (id : Text) (o : Option Slot) → AtBut pending id o → AtBut (λ _. pending id) id o
  at_of pending id None h = tt
  at_of pending id (Some s) h = h

  of_at : (pending : Text → Bool) (id : Text) (o : Option Slot) → AtBut (λ _. pending id) id o → AtBut pending id o
  of_at pending id None h = tt
  of_at pending id (Some s) h = h

  module _ (f : Fact) (fs : List Fact) (m : Records) (is : IsFact f) (all : AreBut (comes (f ∷ fs)) m) (live_or : LiveOrComes m (f ∷ fs) f) where
    fact_here : SlotBut (comes fs f.id) f.id (Alive (with_fact f (old_row (live f.id m))))
    fact_here = by (slot_at f.id m) (all.each f.id) live_or
      where
        gone : ((r : Record) × (None ≡ Some r)) ⊎ (comes (f ∷ fs) f.id ≡ true) → bytes_eq f.key typename ≡ false → comes fs f.id ≡ false → ⊥
        gone (inl h) key none = true≢false (sym (ap is_some h.1))
        gone (inr h) key none = true≢false (sym h ∙ comes_otherwise f fs f.id key ∙ none)

        by : (o : Option Slot) → AtBut (comes (f ∷ fs)) f.id o → ((r : Record) × (option_and_then alive o ≡ Some r)) ⊎ (comes (f ∷ fs) f.id ≡ true)
            → IsSoundBut (comes fs f.id) (with_fact f (old_row (option_and_then alive o)))
        by (Some (Alive r)) h either = row_but f (comes fs f.id) (Some r) is h.1.fields h.1.order (λ key none. h.1.named (comes_otherwise f fs f.id key ∙ none))
        by None h either = row_but f (comes fs f.id) None is tt none_in_order (λ key none. absurd (gone either key none))
        by (Some Deleted) h either = row_but f (comes fs f.id) None is tt none_in_order (λ key none. absurd (gone either key none))

    fact_put : AreBut (comes fs) (put_fact f m)
    fact_put = record {
      each = written_so (AtBut (comes fs)) f.id (Alive (with_fact f (old_row (live f.id m)))) m (is.of, fact_here)
          (λ q e. of_at (comes fs) q (slot_at q m) (at_but (comes (f ∷ fs) q) (comes fs q) q (slot_at q m) (comes_later f fs q e) (at_of (comes (f ∷ fs)) q (slot_at q m) (all.each q))));
    }

  -- what was live stays so, and what the fact says of is live
  live_after : (f : Fact) (m : Records) (q : Text) → bytes_eq f.id q ≡ true → (r : Record) × (live q (put_fact f m) ≡ Some r)
  live_after f m q e = (
    with_fact f (old_row (live f.id m)),
    ap (option_and_then alive) (slot_written f.id (Alive (with_fact f (old_row (live f.id m)))) m q ∙ ap (λ b. cond b (Some (Alive (with_fact f (old_row (live f.id m))))) (slot_at q m)) e),
  )

  live_still : (f : Fact) (m : Records) (q : Text) (r : Record) → live q m ≡ Some r → (s : Record) × (live q (put_fact f m) ≡ Some s)
  live_still f m q r e = at (bytes_eq f.id q) refl
    where
      at : (b : Bool) → bytes_eq f.id q ≡ b → (s : Record) × (live q (put_fact f m) ≡ Some s)
      at true is = live_after f m q is
      at false is =
          (r, ap (option_and_then alive) (slot_written f.id (Alive (with_fact f (old_row (live f.id m)))) m q ∙ ap (λ b. cond b (Some (Alive (with_fact f (old_row (live f.id m))))) (slot_at q m)) is) ∙ e)

  -- of each further fact the same holds after a fact
  next_comes : (f : Fact) (fs : List Fact) (m : Records) (g : Fact) → LiveOrComes m (f ∷ fs) g → LiveOrComes (put_fact f m) fs g
  next_comes f fs m g (inl h) = inl (live_still f m g.id h.0 h.1)
  next_comes f fs m g (inr h) = at (bytes_eq f.id g.id) refl
    where
      at : (b : Bool) → bytes_eq f.id g.id ≡ b → LiveOrComes (put_fact f m) fs g
      at true is = inl (live_after f m g.id is)
      at false is = inr (sym (comes_later f fs g.id is) ∙ h)

  each_comes : (f : Fact) (fs : List Fact) (m : Records) (gs : List Fact) → Each (LiveOrComes m (f ∷ fs)) gs → Each (LiveOrComes (put_fact f m) fs) gs
  each_comes f fs m [] h = tt
  each_comes f fs m (g ∷ gs) h = (next_comes f fs m g h.0, each_comes f fs m gs h.1)

  -- ---- all facts

  settled : (id : Text) (o : Option Slot) → AtBut (comes []) id o → IsSoundAt object id o
  settled id None h = tt
  settled id (Some Deleted) h = h
  settled id (Some (Alive r)) h = (h.0, record { named = h.1.named refl; fields = h.1.fields; order = h.1.order })

  put_but : (fs : List Fact) (m : Records) → Each IsFact fs → Each (LiveOrComes m fs) fs → AreBut (comes fs) m → AreSound object (put fs m)
  put_but [] m is there all = record { each = λ id. settled id (slot_at id m) (all.each id) }
  put_but (f ∷ fs) m is there all = put_but fs (put_fact f m) is.1 (each_comes f fs m fs there.1) (fact_put f fs m is.0 all there.0)

  but_sound : (pending : Text → Bool) (id : Text) (o : Option Slot) → IsSoundAt object id o → AtBut pending id o
  but_sound pending id None h = tt
  but_sound pending id (Some Deleted) h = h
  but_sound pending id (Some (Alive r)) h = (h.0, record { named = λ _. h.1.named; fields = h.1.fields; order = h.1.order })

  abbrev IsGood : List Fact → Fact → Type 0
  IsGood fs f = IsId f.id × IsSoundValue object (bytes_eq f.key typename) f.value × (has_fact fs f.id typename ≡ true)

  facts_are : (fs gs : List Fact) → Each (IsGood fs) gs → Each IsFact gs
  facts_are fs [] h = tt
  facts_are fs (g ∷ gs) h = (record { of = h.0.0; value = h.0.1 }, facts_are fs gs h.1)

  types_come : (fs : List Fact) (m : Records) (gs : List Fact) → Each (IsGood fs) gs → Each (LiveOrComes m fs) gs
  types_come fs m [] h = tt
  types_come fs m (g ∷ gs) h = (inr h.0.2, types_come fs m gs h.1)

  pub put_sound : (fs : List Fact) (m : Records) → Each (λ f. IsId f.id × IsSoundValue object (bytes_eq f.key typename) f.value × (has_fact fs f.id typename ≡ true)) fs → AreSound object m
      → AreSound object (put fs m)
  put_sound fs m facts all = put_but fs m (facts_are fs fs facts) (types_come fs m fs facts) (record { each = λ id. but_sound (comes fs) id (slot_at id m) (all.each id) })
