-- A read looks at keys of fields that its parts, the parts below them and the bodies of their inline pointers give.
use Rattle.std.proofs.Common.{◌≡◌, ℕ, zero, suc, Bool, true, false, List, [], ◌∷◌, Option, Some, None, map, refl, cond, bytes_eq}
use Rattle.store_record.specs.gql_plain.Order.{has_text}
use Rattle.store_record.specs.gql_plain.declared.plain.Plain.{Plain}
use Rattle.store_record.specs.gql_plain.declared.plain.Plain.TheVariants.{Null, Bool as Truth, Int, Text as Words, List as Listed, Tree as Object}
use Rattle.store_record.specs.Keys.{Text}
use Rattle.store_record.specs.declared.field.Field.{Field}
use Rattle.store_record.specs.declared.field.Field.TheVariants.{Leaf, Link, Links}
use Rattle.store_model.proofs.Least.{Each, each_append, each_so}
use Rattle.store_model.proofs.Seated.{Fits, grouped_fits}
use Rattle.store_model.specs.Items.{Form, typename, leaf, one, many, Asked, Pointer, Item, asked, pointed, Group, members, parts, asked_of, groups_of, without, pointers, Collect, collect_all}
use Rattle.store_model.specs.Walks.{Slots, Fields, Standing, absent, gone, lives, standing_of, field_of, Trace, join_traces, looks_at, Shown, Next, null_alone, leaf_at, one_at, elements_at, many_at, value_at, read_key, group_at, fields_at, pointer_at, pointers_at, marks, object_at, where_possible, stand_at, read_at}

-- what holds of the key that a form looks at
abbrev pub LooksWell : (Text → Type 0) → Form → Text → Type 0
LooksWell Q typename key = Unit {0}
LooksWell Q leaf key = Q key
LooksWell Q (one b) key = Q key
LooksWell Q (many b) key = Q key

looked_null : (Q : Text → Type 0) (value : Plain) → Each (λ p. Q p.1) (null_alone value).1.looked
looked_null Q Null = tt
looked_null Q (Truth b) = tt
looked_null Q (Int z) = tt
looked_null Q (Words s) = tt
looked_null Q (Listed ts) = tt
looked_null Q (Object ms) = tt

looked_leaf : (Q : Text → Type 0) (field : Option Field) → Each (λ p. Q p.1) (leaf_at field).1.looked
looked_leaf Q None = tt
looked_leaf Q (Some (Leaf value)) = tt
looked_leaf Q (Some (Link id)) = tt
looked_leaf Q (Some (Links ids)) = tt

looked_own : (Q : Text → Type 0) (form : Form) (id key : Text) → LooksWell Q form key → Each (λ p. Q p.1) (looks_at form id key).looked
looked_own Q typename id key h = tt
looked_own Q leaf id key h = (h, tt)
looked_own Q (one b) id key h = (h, tt)
looked_own Q (many b) id key h = (h, tt)

-- Q is what holds of the keys, K of the parts
module _ {F : Type 0} (Q : Text → Type 0) (K : F → Type 0) where
  abbrev pub KeyedAsked : Asked F → Type 0
  KeyedAsked a = LooksWell Q a.ask.form (read_key a.ask) × K a.part

  abbrev pub KeyedItem : Item F → Type 0
  KeyedItem (asked a) = KeyedAsked a
  KeyedItem (pointed p) = p.inline ≡ true → K p.body

  abbrev KeyedPointer : Pointer F → Type 0
  KeyedPointer p = p.inline ≡ true → K p.body

  asked_keyed : (items : List (Item F)) → Each KeyedItem items → Each KeyedAsked (asked_of items)
  asked_keyed [] h = tt
  asked_keyed (asked a ∷ items) h = (h.0, asked_keyed items h.1)
  asked_keyed (pointed p ∷ items) h = asked_keyed items h.1

  without_keyed : (name : Text) (ps : List (Pointer F)) → Each KeyedPointer ps → Each KeyedPointer (without name ps)
  without_keyed name [] h = tt
  without_keyed name (p ∷ ps) h =
      elim (bytes_eq p.fragment name) as (λ b. Each KeyedPointer (cond b (without name ps) (p ∷ without name ps))) [ true ↦ without_keyed name ps h.1 | false ↦ (h.0, without_keyed name ps h.1) ]

  pointers_keyed : (items : List (Item F)) → Each KeyedItem items → Each KeyedPointer (pointers items)
  pointers_keyed [] h = tt
  pointers_keyed (asked a ∷ items) h = pointers_keyed items h.1
  pointers_keyed (pointed p ∷ items) h = (h.0, without_keyed p.fragment (pointers items) (pointers_keyed items h.1))

  all_keyed : (collect : Collect F) → ((T : Text) (f : F) → K f → Each KeyedItem (collect T f)) → (T : Text) (fs : List F) → Each K fs → Each KeyedItem (collect_all collect T fs)
  all_keyed collect keyed T [] h = tt
  all_keyed collect keyed T (f ∷ fs) h = each_append KeyedItem (collect T f) (collect_all collect T fs) (keyed T f h.0) (all_keyed collect keyed T fs h.1)

  parts_keyed : (us : List (Asked F)) → Each KeyedAsked us → Each K (map (λ a. a.part) us)
  parts_keyed [] h = tt
  parts_keyed (u ∷ us) h = (h.0.1, parts_keyed us h.1)

  abbrev Looked : Trace → Type 0
  Looked t = Each (λ p. Q p.1) t.looked

  module _ (next : Next F) (below : (types : List Text) (fs : List F) (id : Text) → Each K fs → Looked (next types fs id).1) where
    module _ (fs : List F) (h : Each K fs) where
      looked_one : (types : List Text) (field : Option Field) → Looked (one_at next types fs field).1
      looked_one types None = tt
      looked_one types (Some (Leaf value)) = looked_null Q value
      looked_one types (Some (Link id)) = below types fs id h
      looked_one types (Some (Links ids)) = tt

      looked_elements : (types : List Text) (es : List (Option Text)) → Looked (elements_at next types fs es).1
      looked_elements types [] = tt
      looked_elements types (None ∷ es) = looked_elements types es
      looked_elements types (Some id ∷ es) =
          each_append (λ p. Q p.1) (next types fs id).1.looked (elements_at next types fs es).1.looked (below types fs id h) (looked_elements types es)

      looked_many : (types : List Text) (field : Option Field) → Looked (many_at next types fs field).1
      looked_many types None = tt
      looked_many types (Some (Leaf value)) = looked_null Q value
      looked_many types (Some (Link id)) = tt
      looked_many types (Some (Links ids)) = looked_elements types ids

      looked_value : (T : Text) (form : Form) (field : Option Field) → Looked (value_at next T fs form field).1
      looked_value T typename field = tt
      looked_value T leaf field = looked_leaf Q field
      looked_value T (one b) field = looked_one b.types field
      looked_value T (many b) field = looked_many b.types field

    looked_fields : (T id : Text) (fields : Fields) (end : Shown × Trace) (groups : List (Group F)) → Looked end.1 → Each (Fits KeyedAsked) groups → Looked (fields_at next T id fields end groups).1
    looked_fields T id fields end [] before h = before
    looked_fields T id fields end (g ∷ groups) before h =
        let look = looks_at g.first.ask.form id (read_key g.first.ask) in
        let value = (group_at next T fields g).1 in
        let others = each_so (λ a. (g.first.ask.response ≡ a.ask.response) × KeyedAsked a) KeyedAsked g.others (λ a e. e.1) h.0.1 in
        each_append (λ p. Q p.1) (join_traces look value).looked (fields_at next T id fields end groups).1.looked
        (each_append (λ p. Q p.1) look.looked value.looked (looked_own Q g.first.ask.form id (read_key g.first.ask) h.0.0.0)
        (looked_value (parts g) (parts_keyed (members g) (h.0.0, others)) T g.first.ask.form (fields (read_key g.first.ask))))
        (looked_fields T id fields end groups before h.1)

    looked_pointer : (T id : Text) (p : Pointer F) (inline : Bool) → (inline ≡ true → K p.body) → Looked (pointer_at next T id p inline).1
    looked_pointer T id p false h = tt
    looked_pointer T id p true h = below (T ∷ []) (p.body ∷ []) id (h refl, tt)

    looked_pointers : (T id : Text) (ps : List (Pointer F)) → Each KeyedPointer ps → Looked (pointers_at next T id ps).1
    looked_pointers T id [] h = tt
    looked_pointers T id (p ∷ ps) h =
        each_append (λ q. Q q.1) (pointer_at next T id p p.inline).1.looked (pointers_at next T id ps).1.looked (looked_pointer T id p p.inline h.0) (looked_pointers T id ps h.1)

    looked_possible : (id : Text) (possible : Bool) (r : Shown × Trace) → Looked r.1 → Looked (where_possible possible id r).1
    looked_possible id true r h = h
    looked_possible id false r h = tt

    looked_stand : (collect : Collect F) (typed : Text → Text) (owner : Text) → ((T : Text) (f : F) → K f → Each KeyedItem (collect T f))
        → (types : List Text) (fs : List F) (id : Text) (s : Standing) (fields : Fields) → Each K fs → Looked (stand_at collect typed owner next types fs id s fields).1
    looked_stand collect typed owner keyed types fs id absent fields h = tt
    looked_stand collect typed owner keyed types fs id gone fields h = tt
    looked_stand collect typed owner keyed types fs id (lives name) fields h =
        let T = typed name in
        let items = collect_all collect T fs in
        let all = all_keyed collect keyed T fs h in
        looked_possible id (has_text types T) (object_at collect owner next T fs id fields)
        (looked_fields T id fields (marks owner id (pointers_at next T id (pointers items))) (groups_of items)
        (looked_pointers T id (pointers items) (pointers_keyed items all)) (grouped_fits KeyedAsked items (asked_keyed items all)))

  -- what holds of the keys of all that is collected on the way holds of each key that a read looks at
  pub looked_keys : (collect : Collect F) (typed : Text → Text) (owner : Text) (m : Slots) → ((T : Text) (f : F) → K f → Each KeyedItem (collect T f))
      → (depth : ℕ) (types : List Text) (fs : List F) (id : Text) → Each K fs → Each (λ p. Q p.1) (read_at collect typed owner m depth types fs id).1.looked
  looked_keys collect typed owner m keyed zero types fs id h = tt
  looked_keys collect typed owner m keyed (suc depth) types fs id h =
      looked_stand (read_at collect typed owner m depth) (looked_keys collect typed owner m keyed depth) collect typed owner keyed types fs id (standing_of (m id)) (field_of (m id)) h
