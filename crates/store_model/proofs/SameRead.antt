-- Two maps that agree on what a read met give the same read.
use Rattle.std.proofs.Common.{◌≡◌, ℕ, zero, suc, Bool, true, false, List, [], ◌∷◌, Option, Some, None, refl, sym, ap, ◌∙◌}
use Rattle.store_record.specs.gql_plain.Order.{has_text}
use Rattle.store_record.specs.Keys.{Text}
use Rattle.store_record.specs.declared.field.Field.{Field}
use Rattle.store_record.specs.declared.field.Field.TheVariants.{Leaf, Link, Links}
use Rattle.store_model.proofs.Least.{each_left, each_right}
use Rattle.store_model.specs.Agree.{Agrees, AgreeAt, AgreeUnder}
use Rattle.store_model.specs.Items.{Form, typename, leaf, one, many, Pointer, Group, parts, Collect, groups_at, pointers_on}
use Rattle.store_model.specs.Walks.{Slots, Fields, Standing, absent, gone, lives, standing_of, field_of, Trace, join_traces, trace_at, looks_at, issue, Shown, Next, or_null, with_found, with_value, leaf_at, one_at, element_at, elements_at, list_found, many_at, value_at, read_key, group_at, fields_at, pointer_at, pointers_at, marks, object_at, where_possible, stand_at, read_at}

-- ---- agreement on what two walks met

pub agrees_left : (m n : Slots) (s t : Trace) → Agrees m n (join_traces s t) → Agrees m n s
agrees_left m n s t h = record { ids = each_left (AgreeAt m n) s.seen t.seen h.ids; fields = each_left (AgreeUnder m n) s.looked t.looked h.fields }

pub agrees_right : (m n : Slots) (s t : Trace) → Agrees m n (join_traces s t) → Agrees m n t
agrees_right m n s t h = record { ids = each_right (AgreeAt m n) s.seen t.seen h.ids; fields = each_right (AgreeUnder m n) s.looked t.looked h.fields }

-- ---- one step of the walk, where what lies below is the same

module _ {F : Type 0} (m n : Slots) (next other : Next F) (same : (types : List Text) (fs : List F) (id : Text) → Agrees m n (next types fs id).1 → other types fs id ≡ next types fs id) where
  one_same : (types : List Text) (fs : List F) (field : Option Field) → Agrees m n (one_at next types fs field).1 → one_at other types fs field ≡ one_at next types fs field
  one_same types fs None h = refl
  one_same types fs (Some (Leaf value)) h = refl
  one_same types fs (Some (Link id)) h = same types fs id h
  one_same types fs (Some (Links ids)) h = refl

  element_same : (types : List Text) (fs : List F) (e : Option Text) → Agrees m n (element_at next types fs e).1 → element_at other types fs e ≡ element_at next types fs e
  element_same types fs None h = refl
  element_same types fs (Some id) h = ap (λ r. (or_null r.0, r.1)) (same types fs id h)

  elements_same : (types : List Text) (fs : List F) (es : List (Option Text)) → Agrees m n (elements_at next types fs es).1 → elements_at other types fs es ≡ elements_at next types fs es
  elements_same types fs [] h = refl
  elements_same types fs (e ∷ es) h =
      let first = element_same types fs e (agrees_left m n _ (elements_at next types fs es).1 h) in
      let rest = elements_same types fs es (agrees_right m n (element_at next types fs e).1 _ h) in
      λ i. ((first i).0 ∷ (rest i).0, join_traces (first i).1 (rest i).1)

  many_same : (types : List Text) (fs : List F) (field : Option Field) → Agrees m n (many_at next types fs field).1 → many_at other types fs field ≡ many_at next types fs field
  many_same types fs None h = refl
  many_same types fs (Some (Leaf value)) h = refl
  many_same types fs (Some (Link id)) h = refl
  many_same types fs (Some (Links ids)) h = ap list_found (elements_same types fs ids h)

  value_same : (T id : Text) (fs : List F) (form : Form) (key : Text) → Agrees m n (join_traces (looks_at form id key) (value_at next T fs form (field_of (m id) key)).1)
      → value_at other T fs form (field_of (n id) key) ≡ value_at next T fs form (field_of (m id) key)
  value_same T id fs typename key h = refl
  value_same T id fs leaf key h = ap leaf_at (sym h.fields.0)
  value_same T id fs (one b) key h =
      ap (one_at other b.types fs) (sym h.fields.0) ∙ one_same b.types fs (field_of (m id) key) (agrees_right m n (looks_at (one b) id key) (one_at next b.types fs (field_of (m id) key)).1 h)
  value_same T id fs (many b) key h =
      ap (many_at other b.types fs) (sym h.fields.0) ∙ many_same b.types fs (field_of (m id) key) (agrees_right m n (looks_at (many b) id key) (many_at next b.types fs (field_of (m id) key)).1 h)

  -- what was met before the fields
  met_before : (T id : Text) (end : Shown × Trace) (groups : List (Group F)) → Agrees m n (fields_at next T id (field_of (m id)) end groups).1 → Agrees m n end.1
  met_before T id end [] h = h
  met_before T id end (g ∷ groups) h =
      met_before T id end groups (agrees_right m n (join_traces (looks_at g.first.ask.form id (read_key g.first.ask)) (group_at next T (field_of (m id)) g).1) _ h)

  fields_same : (T id : Text) (end turned : Shown × Trace) (groups : List (Group F)) → turned ≡ end → Agrees m n (fields_at next T id (field_of (m id)) end groups).1
      → fields_at other T id (field_of (n id)) turned groups ≡ fields_at next T id (field_of (m id)) end groups
  fields_same T id end turned [] e h = e
  fields_same T id end turned (g ∷ groups) e h =
      let first = value_same T id (parts g) g.first.ask.form (read_key g.first.ask) (agrees_left m n _ (fields_at next T id (field_of (m id)) end groups).1 h) in
      let rest = fields_same T id end turned groups e (agrees_right m n (join_traces (looks_at g.first.ask.form id (read_key g.first.ask)) (group_at next T (field_of (m id)) g).1) _ h) in
      λ i. (with_found g.first.ask.response (first i).0 (rest i).0, join_traces (join_traces (looks_at g.first.ask.form id (read_key g.first.ask)) (first i).1) (rest i).1)

  pointer_same : (T id : Text) (p : Pointer F) (inline : Bool) → Agrees m n (pointer_at next T id p inline).1 → pointer_at other T id p inline ≡ pointer_at next T id p inline
  pointer_same T id p false h = refl
  pointer_same T id p true h =
      ap (λ r. (or_null r.0, join_traces (issue id p) r.1)) (same (T ∷ []) (p.body ∷ []) id (agrees_right m n (issue id p) (next (T ∷ []) (p.body ∷ []) id).1 h))

  pointers_same : (T id : Text) (ps : List (Pointer F)) → Agrees m n (pointers_at next T id ps).1 → pointers_at other T id ps ≡ pointers_at next T id ps
  pointers_same T id [] h = refl
  pointers_same T id (p ∷ ps) h =
      let first = pointer_same T id p p.inline (agrees_left m n _ (pointers_at next T id ps).1 h) in
      let rest = pointers_same T id ps (agrees_right m n (pointer_at next T id p p.inline).1 _ h) in
      λ i. (with_value p.fragment (first i).0 (rest i).0, join_traces (first i).1 (rest i).1)

  module _ (collect : Collect F) (typed : Text → Text) (owner : Text) where
    object_same : (T : Text) (fs : List F) (id : Text) → Agrees m n (object_at collect owner next T fs id (field_of (m id))).1
        → object_at collect owner other T fs id (field_of (n id)) ≡ object_at collect owner next T fs id (field_of (m id))
    object_same T fs id h =
        let ps = pointers_on collect T fs in
        let gs = groups_at collect T fs in
        fields_same T id _ _ gs (ap (marks owner id) (pointers_same T id ps (met_before T id (marks owner id (pointers_at next T id ps)) gs h))) h

    possible_same : (T : Text) (fs : List F) (id : Text) (possible : Bool) → Agrees m n (where_possible possible id (object_at collect owner next T fs id (field_of (m id)))).1
        → where_possible possible id (object_at collect owner other T fs id (field_of (n id))) ≡ where_possible possible id (object_at collect owner next T fs id (field_of (m id)))
    possible_same T fs id true h = ap (where_possible true id) (object_same T fs id (agrees_right m n (trace_at id) (object_at collect owner next T fs id (field_of (m id))).1 h))
    possible_same T fs id false h = refl

    stand_same : (types : List Text) (fs : List F) (id : Text) (s : Standing) → Agrees m n (stand_at collect typed owner next types fs id s (field_of (m id))).1
        → stand_at collect typed owner other types fs id s (field_of (n id)) ≡ stand_at collect typed owner next types fs id s (field_of (m id))
    stand_same types fs id absent h = refl
    stand_same types fs id gone h = refl
    stand_same types fs id (lives name) h = possible_same (typed name) fs id (has_text types (typed name)) h

    -- the id itself is stood at
    stood_possible : (id : Text) (possible : Bool) (r : Shown × Trace) → Agrees m n (where_possible possible id r).1 → AgreeAt m n id
    stood_possible id true r h = h.ids.0
    stood_possible id false r h = h.ids.0

    stood_same : (types : List Text) (fs : List F) (id : Text) (s : Standing) (fields : Fields) → Agrees m n (stand_at collect typed owner next types fs id s fields).1 → AgreeAt m n id
    stood_same types fs id absent fields h = h.ids.0
    stood_same types fs id gone fields h = h.ids.0
    stood_same types fs id (lives name) fields h = stood_possible id (has_text types (typed name)) (object_at collect owner next (typed name) fs id fields) h

    step_same : (types : List Text) (fs : List F) (id : Text) → Agrees m n (stand_at collect typed owner next types fs id (standing_of (m id)) (field_of (m id))).1
        → stand_at collect typed owner other types fs id (standing_of (n id)) (field_of (n id)) ≡ stand_at collect typed owner next types fs id (standing_of (m id)) (field_of (m id))
    step_same types fs id h =
        ap (λ s. stand_at collect typed owner other types fs id s (field_of (n id))) (sym (stood_same types fs id (standing_of (m id)) (field_of (m id)) h))
        ∙ stand_same types fs id (standing_of (m id)) h

-- ---- the law

module _ {F : Type 0} (collect : Collect F) (typed : Text → Text) (owner : Text) (m n : Slots) where
  -- a read stays the same in every map that agrees on the ids stood at and the fields looked at
  pub read_same : (depth : ℕ) (types : List Text) (fs : List F) (id : Text) → Agrees m n (read_at collect typed owner m depth types fs id).1
      → read_at collect typed owner n depth types fs id ≡ read_at collect typed owner m depth types fs id
  read_same zero types fs id h = refl
  read_same (suc depth) types fs id h =
      step_same m n (read_at collect typed owner m depth) (read_at collect typed owner n depth) (read_same depth) collect typed owner types fs id h
