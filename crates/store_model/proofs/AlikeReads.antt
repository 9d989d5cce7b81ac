-- Parts whose groups are alike are read alike.
use Rattle.std.proofs.Common.{◌≡◌, ℕ, zero, suc, ◌≤◌, Bool, true, false, List, [], ◌∷◌, Option, Some, None, refl, ap, ◌∙◌, arith}
use Rattle.std.specs.List.{AllZip}
use Rattle.store_record.specs.Keys.{Text}
use Rattle.store_record.specs.gql_plain.Order.{has_text}
use Rattle.store_record.specs.declared.field.Field.{Field}
use Rattle.store_record.specs.declared.field.Field.TheVariants.{Leaf, Link, Links}
use Rattle.store_model.specs.Alike.{Related, AlikeGroup, AlikePointer, AlikeAt, Keeps}
use Rattle.store_model.specs.Items.{Form, typename, leaf, one, many, Pointer, Group, parts, Collect, groups_at}
use Rattle.store_model.specs.Reaches.{types_of}
use Rattle.store_model.specs.Walks.{Slots, Fields, Standing, absent, gone, lives, standing_of, field_of, Trace, join_traces, looks_at, issue, Shown, Next, or_null, shown_object, with_found, with_value, one_at, element_at, elements_at, list_found, many_at, value_at, read_key, group_at, fields_at, pointer_at, pointers_at, marks, object_at, where_possible, stand_at, read_at}

-- ---- a field, where the parts below it are read alike

module _ {F G : Type 0} (next : Next F) (other : Next G) (fs : List F) (gs : List G) (types : List Text) (same : (id : Text) → next types fs id ≡ other types gs id) where
  one_alike : (field : Option Field) → one_at next types fs field ≡ one_at other types gs field
  one_alike None = refl
  one_alike (Some (Leaf value)) = refl
  one_alike (Some (Link id)) = same id
  one_alike (Some (Links ids)) = refl

  element_alike : (e : Option Text) → element_at next types fs e ≡ element_at other types gs e
  element_alike None = refl
  element_alike (Some id) = ap (λ r. (or_null r.0, r.1)) (same id)

  elements_alike : (es : List (Option Text)) → elements_at next types fs es ≡ elements_at other types gs es
  elements_alike [] = refl
  elements_alike (e ∷ es) =
      let first = element_alike e in
      let rest = elements_alike es in
      λ i. ((first i).0 ∷ (rest i).0, join_traces (first i).1 (rest i).1)

  many_alike : (field : Option Field) → many_at next types fs field ≡ many_at other types gs field
  many_alike None = refl
  many_alike (Some (Leaf value)) = refl
  many_alike (Some (Link id)) = refl
  many_alike (Some (Links ids)) = ap list_found (elements_alike ids)

module _ {F G : Type 0} (next : Next F) (other : Next G) (fs : List F) (gs : List G) where
  value_alike : (T : Text) (form : Form) (field : Option Field) → ((id : Text) → next (types_of form) fs id ≡ other (types_of form) gs id)
      → value_at next T fs form field ≡ value_at other T gs form field
  value_alike T typename field same = refl
  value_alike T leaf field same = refl
  value_alike T (one b) field same = one_alike next other fs gs b.types same field
  value_alike T (many b) field same = many_alike next other fs gs b.types same field

-- ---- one step of the walk, where related parts below are read alike

module _ {F G : Type 0} (r : Related F G) (next : Next F) (other : Next G)
    (same : (types : List Text) (fs : List F) (gs : List G) (id : Text) → r types fs gs → next types fs id ≡ other types gs id) where
  group_alike : (T : Text) (fields : Fields) (g : Group F) (h : Group G) → AlikeGroup r g h → group_at next T fields g ≡ group_at other T fields h
  group_alike T fields g h e =
      value_alike next other (parts g) (parts h) T g.first.ask.form (fields (read_key g.first.ask))
      (λ id. same (types_of g.first.ask.form) (parts g) (parts h) id e.below.0)
      ∙ ap (λ a. value_at other T (parts h) a.form (fields (read_key a))) e.first

  fields_alike : (T id : Text) (fields : Fields) (end turned : Shown × Trace) → end ≡ turned → (us : List (Group F)) (vs : List (Group G)) → AllZip (AlikeGroup r) us vs
      → fields_at next T id fields end us ≡ fields_at other T id fields turned vs
  fields_alike T id fields end turned e [] [] h = e
  fields_alike T id fields end turned e [] (v ∷ vs) h = absurd h
  fields_alike T id fields end turned e (u ∷ us) [] h = absurd h
  fields_alike T id fields end turned e (u ∷ us) (v ∷ vs) h =
      let first = group_alike T fields u v h.0 in
      let rest = fields_alike T id fields end turned e us vs h.1 in
      λ i. (
        with_found (h.0.first i).response (first i).0 (rest i).0,
        join_traces (join_traces (looks_at (h.0.first i).form id (read_key (h.0.first i))) (first i).1) (rest i).1,
      )

  issue_alike : (T id : Text) (p : Pointer F) (q : Pointer G) → AlikePointer r T p q → issue id p ≡ issue id q
  issue_alike T id p q e = λ i. record { missing = false; seen = []; looked = []; issued = record { fragment = e.fragment i; id = id; scope = e.scope i } ∷ [] }

  pointer_alike : (T id : Text) → (p : Pointer F) (q : Pointer G) → AlikePointer r T p q → (inline : Bool) → (inline ≡ true → r (T ∷ []) (p.body ∷ []) (q.body ∷ []))
      → pointer_at next T id p inline ≡ pointer_at other T id q inline
  pointer_alike T id p q e false body = λ i. (shown_object (e.scope i), issue_alike T id p q e i)
  pointer_alike T id p q e true body =
      let inner = same (T ∷ []) (p.body ∷ []) (q.body ∷ []) id (body refl) in
      λ i. (or_null (inner i).0, join_traces (issue_alike T id p q e i) (inner i).1)

  pointers_read_alike : (T id : Text) → (ps : List (Pointer F)) (qs : List (Pointer G)) → AllZip (AlikePointer r T) ps qs → pointers_at next T id ps ≡ pointers_at other T id qs
  pointers_read_alike T id [] [] h = refl
  pointers_read_alike T id [] (q ∷ qs) h = absurd h
  pointers_read_alike T id (p ∷ ps) [] h = absurd h
  pointers_read_alike T id (p ∷ ps) (q ∷ qs) h =
      let first = pointer_alike T id p q h.0 p.inline h.0.body ∙ ap (pointer_at other T id q) h.0.inline in
      let rest = pointers_read_alike T id ps qs h.1 in
      λ i. (with_value (h.0.fragment i) (first i).0 (rest i).0, join_traces (first i).1 (rest i).1)

  possible_alike : (id : Text) (possible : Bool) (x y : Shown × Trace) → (possible ≡ true → x ≡ y) → where_possible possible id x ≡ where_possible possible id y
  possible_alike id true x y e = ap (where_possible true id) (e refl)
  possible_alike id false x y e = refl

  module _ (collect : Collect F) (gather : Collect G) (typed : Text → Text) (owner : Text) (types : List Text) (fs : List F) (gs : List G)
      (alike : (T : Text) → has_text types T ≡ true → AlikeAt r collect gather T fs gs) where
    object_alike : (T id : Text) (fields : Fields) → has_text types T ≡ true → object_at collect owner next T fs id fields ≡ object_at gather owner other T gs id fields
    object_alike T id fields here =
        fields_alike T id fields _ _ (ap (marks owner id) (pointers_read_alike T id _ _ (alike T here).pointers))
        (groups_at collect T fs) (groups_at gather T gs) (alike T here).groups

    stand_alike : (id : Text) (s : Standing) (fields : Fields) → stand_at collect typed owner next types fs id s fields ≡ stand_at gather typed owner other types gs id s fields
    stand_alike id absent fields = refl
    stand_alike id gone fields = refl
    stand_alike id (lives name) fields =
        possible_alike id (has_text types (typed name)) _ _ (λ e. object_alike (typed name) id fields e)

-- ---- the laws

module _ {F G : Type 0} (collect : Collect F) (gather : Collect G) (typed : Text → Text) (owner : Text) (m : Slots) where
  -- parts that are related n deep are read alike, n records down
  pub read_alike : (r : ℕ → Related F G) → ((n : ℕ) → Keeps (r n) (r (suc n)) collect gather)
      → (depth : ℕ) (types : List Text) (fs : List F) (gs : List G) (id : Text) → r depth types fs gs
      → read_at collect typed owner m depth types fs id ≡ read_at gather typed owner m depth types gs id
  read_alike r keeps zero types fs gs id h = refl
  read_alike r keeps (suc depth) types fs gs id h =
      stand_alike (r depth) (read_at collect typed owner m depth) (read_at gather typed owner m depth)
      (λ types fs gs id h. read_alike r keeps depth types fs gs id h)
      collect gather typed owner types fs gs (λ T here. keeps depth T types fs gs here h)
      id (standing_of (m id)) (field_of (m id))

  -- parts that are related n deep are read alike under any two numbers of at least n
  pub read_enough : (r : ℕ → Related F G) → ((types : List Text) (fs : List F) (gs : List G) → r zero types fs gs → ⊥)
      → ((n : ℕ) → Keeps (r n) (r (suc n)) collect gather)
      → (n depth other : ℕ) → n ≤ depth → n ≤ other → (types : List Text) (fs : List F) (gs : List G) (id : Text) → r n types fs gs
      → read_at collect typed owner m depth types fs id ≡ read_at gather typed owner m other types gs id
  read_enough r none keeps zero depth other a b types fs gs id h = absurd (none types fs gs h)
  read_enough r none keeps (suc n) zero other a b types fs gs id h = absurd (omega arith)
  read_enough r none keeps (suc n) (suc depth) zero a b types fs gs id h = absurd (omega arith)
  read_enough r none keeps (suc n) (suc depth) (suc other) a b types fs gs id h =
      stand_alike (r n) (read_at collect typed owner m depth) (read_at gather typed owner m other)
      (λ types fs gs id h. read_enough r none keeps n depth other (omega arith) (omega arith) types fs gs id h)
      collect gather typed owner types fs gs (λ T here. keeps n T types fs gs here h)
      id (standing_of (m id)) (field_of (m id))
