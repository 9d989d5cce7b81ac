-- A read goes on below the fields of objects and in the bodies of pointers alone: so many records deep it gives what it gives under any
-- larger number.
use Rattle.std.proofs.Common.{◌≡◌, ℕ, zero, suc, ◌+◌, ◌≤◌, Bool, true, false, true≢false, cond, List, [], ◌∷◌, Option, Some, None, ◌⊎◌, map, inl, inr, max, refl, sym, ap, arith, bytes_eq}
use Rattle.store_model.specs.gql_plain.Order.{has_text}
use Rattle.plan_ir.specs.NormalMeaning.{guard_passes}
use Rattle.plan_ir.specs.Reader as r
use Rattle.plan_ir.specs.Reader.{Reader}
use Rattle.plan_ir.specs.ReaderMeaning.{ReaderPart, collect_reading, collect_reader, records_below, plan_reads}
use Rattle.relay_marks.specs.schema_types.Environments.{Values}
use Rattle.store_model.proofs.Least.{Each, each_append, each_so}
use Rattle.store_model.proofs.Seated.{Fits, grouped_fits}
use Rattle.store_model.specs.Items.{Form, typename, leaf, one, many, Asked, Pointer, Item, asked, pointed, Group, members, parts, asked_of, without, pointers, Collect, collect_all, groups_at, pointers_on}
use Rattle.store_model.specs.Walks.{Slots, Fields, Standing, absent, gone, lives, standing_of, field_of, Trace, join_traces, looks_at, issue, Shown, Next, or_null, with_found, with_value, one_at, element_at, elements_at, list_found, many_at, value_at, read_key, fields_at, pointer_at, pointers_at, marks, where_possible, stand_at, read_at}
use Rattle.store_model.specs.store_record.Keys.{Text}
use Rattle.store_model.specs.store_record.declared.field.Field.TheVariants.{Leaf, Link, Links}
use Rattle.store_model.specs.store_record.declared.field.Field.{Field}

-- ---- numbers

left_below : (a b n : ℕ) → max a b ≤ n → a ≤ n
left_below a b n le = omega arith

right_below : (a b n : ℕ) → max a b ≤ n → b ≤ n
right_below a b n le = omega arith

-- ---- any parts

-- nothing is read below
abbrev IsLeaf : Form → Type 0
IsLeaf typename = Unit {0}
IsLeaf leaf = Unit {0}
IsLeaf (one b) = ⊥
IsLeaf (many b) = ⊥

module _ {F : Type 0} (below : F → ℕ) where
  -- what is read below an item is less than n deep; below a leaf there is nothing
  abbrev pub IsWithin : ℕ → Asked F → Type 0
  IsWithin n a = (below a.part + 1 ≤ n) ⊎ (IsLeaf a.ask.form × below a.part ≡ 0)

  abbrev pub HasBody : ℕ → Pointer F → Type 0
  HasBody n p = p.inline ≡ true → below p.body + 1 ≤ n

  abbrev pub ItemWithin : ℕ → Item F → Type 0
  ItemWithin n (asked a) = IsWithin n a
  ItemWithin n (pointed p) = HasBody n p

  within_asked : (n : ℕ) (items : List (Item F)) → Each (ItemWithin n) items → Each (IsWithin n) (asked_of items)
  within_asked n [] h = tt
  within_asked n (asked a ∷ items) h = (h.0, within_asked n items h.1)
  within_asked n (pointed p ∷ items) h = within_asked n items h.1

  within_without : (n : ℕ) (name : Text) (ps : List (Pointer F)) → Each (HasBody n) ps → Each (HasBody n) (without name ps)
  within_without n name [] h = tt
  within_without n name (p ∷ ps) h =
      elim (bytes_eq p.fragment name) as (λ b. Each (HasBody n) (cond b (without name ps) (p ∷ without name ps))) [
        | true ↦ within_without n name ps h.1
        | false ↦ (h.0, within_without n name ps h.1)
      ]

  within_pointers : (n : ℕ) (items : List (Item F)) → Each (ItemWithin n) items → Each (HasBody n) (pointers items)
  within_pointers n [] h = tt
  within_pointers n (asked a ∷ items) h = within_pointers n items h.1
  within_pointers n (pointed p ∷ items) h = (h.0, within_without n p.fragment (pointers items) (within_pointers n items h.1))

  part_within : (n : ℕ) (a : Asked F) → 1 ≤ n → IsWithin n a → below a.part + 1 ≤ n
  part_within n a room (inl h) = h
  part_within n a room (inr h) = omega (arith, h.1)

  parts_within : (n : ℕ) (us : List (Asked F)) → 1 ≤ n → Each (IsWithin n) us → Each (λ f. below f + 1 ≤ n) (map (λ a. a.part) us)
  parts_within n [] room h = tt
  parts_within n (u ∷ us) room h = (part_within n u room h.0, parts_within n us room h.1)

  -- one step of the walk, where what is less than n deep is read alike
  module _ (n : ℕ) (next other : Next F) (same : (types : List Text) (fs : List F) (id : Text) → 1 ≤ n → Each (λ f. below f + 1 ≤ n) fs → next types fs id ≡ other types fs id) where
    one_same : (types : List Text) (fs : List F) (field : Option Field) → 1 ≤ n → Each (λ f. below f + 1 ≤ n) fs → one_at next types fs field ≡ one_at other types fs field
    one_same types fs None room h = refl
    one_same types fs (Some (Leaf value)) room h = refl
    one_same types fs (Some (Link id)) room h = same types fs id room h
    one_same types fs (Some (Links ids)) room h = refl

    element_same : (types : List Text) (fs : List F) (e : Option Text) → 1 ≤ n → Each (λ f. below f + 1 ≤ n) fs → element_at next types fs e ≡ element_at other types fs e
    element_same types fs None room h = refl
    element_same types fs (Some id) room h = ap (λ r. (or_null r.0, r.1)) (same types fs id room h)

    elements_same : (types : List Text) (fs : List F) (es : List (Option Text)) → 1 ≤ n → Each (λ f. below f + 1 ≤ n) fs → elements_at next types fs es ≡ elements_at other types fs es
    elements_same types fs [] room h = refl
    elements_same types fs (e ∷ es) room h =
        let first = element_same types fs e room h in
        let rest = elements_same types fs es room h in
        λ i. ((first i).0 ∷ (rest i).0, join_traces (first i).1 (rest i).1)

    many_same : (types : List Text) (fs : List F) (field : Option Field) → 1 ≤ n → Each (λ f. below f + 1 ≤ n) fs → many_at next types fs field ≡ many_at other types fs field
    many_same types fs None room h = refl
    many_same types fs (Some (Leaf value)) room h = refl
    many_same types fs (Some (Link id)) room h = refl
    many_same types fs (Some (Links ids)) room h = ap list_found (elements_same types fs ids room h)

    -- the first field decides whether the parts are read
    value_same : (T : Text) (fs : List F) (form : Form) (field : Option Field) → ((1 ≤ n) × Each (λ f. below f + 1 ≤ n) fs) ⊎ IsLeaf form
        → value_at next T fs form field ≡ value_at other T fs form field
    value_same T fs typename field h = refl
    value_same T fs leaf field h = refl
    value_same T fs (one b) field (inl h) = one_same b.types fs field h.0 h.1
    value_same T fs (one b) field (inr h) = absurd h
    value_same T fs (many b) field (inl h) = many_same b.types fs field h.0 h.1
    value_same T fs (many b) field (inr h) = absurd h

    group_reads : (g : Group F) → Fits (IsWithin n) g → ((1 ≤ n) × Each (λ f. below f + 1 ≤ n) (parts g)) ⊎ IsLeaf g.first.ask.form
    group_reads g fits = on fits.0
      where
        others : Each (IsWithin n) g.others
        others = each_so (λ a. (g.first.ask.response ≡ a.ask.response) × IsWithin n a) (IsWithin n) g.others (λ a e. e.1) fits.1

        on : IsWithin n g.first → ((1 ≤ n) × Each (λ f. below f + 1 ≤ n) (parts g)) ⊎ IsLeaf g.first.ask.form
        on (inl h) = let room : 1 ≤ n = omega (arith, h) in inl (room, parts_within n (members g) room (inl h, others))
        on (inr h) = inr h.0

    fields_same : (T id : Text) (fields : Fields) (end turned : Shown × Trace) → end ≡ turned → (gs : List (Group F)) → Each (Fits (IsWithin n)) gs
        → fields_at next T id fields end gs ≡ fields_at other T id fields turned gs
    fields_same T id fields end turned e [] h = e
    fields_same T id fields end turned e (g ∷ gs) h =
        let first = value_same T (parts g) g.first.ask.form (fields (read_key g.first.ask)) (group_reads g h.0) in
        let rest = fields_same T id fields end turned e gs h.1 in
        λ i. (
          with_found g.first.ask.response (first i).0 (rest i).0,
          join_traces (join_traces (looks_at g.first.ask.form id (read_key g.first.ask)) (first i).1) (rest i).1,
        )

    pointer_same : (T id : Text) (p : Pointer F) (inline : Bool) → (inline ≡ true → below p.body + 1 ≤ n) → pointer_at next T id p inline ≡ pointer_at other T id p inline
    pointer_same T id p false h = refl
    pointer_same T id p true h =
        let inner = same (T ∷ []) (p.body ∷ []) id (omega (arith, h refl)) (h refl, tt) in
        λ i. (or_null (inner i).0, join_traces (issue id p) (inner i).1)

    pointers_same : (T id : Text) (ps : List (Pointer F)) → Each (HasBody n) ps → pointers_at next T id ps ≡ pointers_at other T id ps
    pointers_same T id [] h = refl
    pointers_same T id (p ∷ ps) h =
        let first = pointer_same T id p p.inline h.0 in
        let rest = pointers_same T id ps h.1 in
        λ i. (with_value p.fragment (first i).0 (rest i).0, join_traces (first i).1 (rest i).1)

    stand_same : (collect : Collect F) (typed : Text → Text) (owner : Text) (types : List Text) (fs : List F) (id : Text) (s : Standing) (fields : Fields)
        → ((T : Text) → Each (ItemWithin n) (collect_all collect T fs))
        → stand_at collect typed owner next types fs id s fields ≡ stand_at collect typed owner other types fs id s fields
    stand_same collect typed owner types fs id absent fields items = refl
    stand_same collect typed owner types fs id gone fields items = refl
    stand_same collect typed owner types fs id (lives name) fields items =
        let T : Text = typed name in
        let all = collect_all collect T fs in
        ap (where_possible (has_text types T) id)
        (fields_same T id fields _ _ (ap (marks owner id) (pointers_same T id (pointers_on collect T fs) (within_pointers n all (items T))))
        (groups_at collect T fs) (grouped_fits (IsWithin n) all (within_asked n all (items T))))

  -- what is n deep has items that are less than n deep
  module _ (collect : Collect F) (within : (n : ℕ) (T : Text) (f : F) → below f ≤ n → Each (ItemWithin n) (collect T f)) where
    all_within : (n : ℕ) (T : Text) (fs : List F) → Each (λ f. below f + 1 ≤ suc n) fs → Each (ItemWithin n) (collect_all collect T fs)
    all_within n T [] h = tt
    all_within n T (f ∷ fs) h = each_append (ItemWithin n) (collect T f) (collect_all collect T fs) (within n T f (omega (arith, h.0))) (all_within n T fs h.1)

    -- parts that are less than n deep are read alike under every number of at least n
    pub reads_exact : (typed : Text → Text) (owner : Text) (m : Slots) (n depth : ℕ) → n ≤ depth → 1 ≤ n → (types : List Text) (fs : List F) (id : Text)
        → Each (λ f. below f + 1 ≤ n) fs → read_at collect typed owner m depth types fs id ≡ read_at collect typed owner m n types fs id
    reads_exact typed owner m zero depth le room types fs id h = absurd (omega arith)
    reads_exact typed owner m (suc n) zero le room types fs id h = absurd (omega arith)
    reads_exact typed owner m (suc n) (suc depth) le room types fs id h =
        stand_same n (read_at collect typed owner m depth) (read_at collect typed owner m n)
        (λ types fs id room h. reads_exact typed owner m n depth (omega arith) room types fs id h)
        collect typed owner types fs id (standing_of (m id)) (field_of (m id)) (λ T. all_within n T fs h)

-- ---- plans that read

abbrev part_below : ReaderPart → ℕ
part_below p = records_below p.steps

either_within : (n : ℕ) (b : Bool) (items : List (Item ReaderPart)) → Each (ItemWithin part_below n) items → Each (ItemWithin part_below n) (cond b items [])
either_within n true items h = h
either_within n false items h = tt

steps_within : (n : ℕ) (T : Text) (env : Values) (s : Reader) → records_below s ≤ n → Each (ItemWithin part_below n) (collect_reading env T s)
steps_within n T env r.done le = tt
steps_within n T env (r.typename k rest) le = (inr (tt, refl), steps_within n T env rest le)
steps_within n T env (r.leaf k name xs rest) le = (inr (tt, refl), steps_within n T env rest le)
steps_within n T env (r.object k name xs m ts is o c child rest) le =
    (inl (left_below (records_below child + 1) (records_below rest) n le), steps_within n T env rest (right_below (records_below child + 1) (records_below rest) n le))
steps_within n T env (r.guarded g child rest) le =
    each_append (ItemWithin part_below n) (cond (guard_passes env T g) (collect_reading env T child) []) (collect_reading env T rest)
    (either_within n (guard_passes env T g) (collect_reading env T child) (steps_within n T env child (left_below (records_below child) (records_below rest) n le)))
    (steps_within n T env rest (right_below (records_below child) (records_below rest) n le))
steps_within n T env (r.pointer f xs rest) le = (λ e. absurd (true≢false (sym e)), steps_within n T env rest le)
steps_within n T env (r.pointer_inline f xs child rest) le =
    (λ e. left_below (records_below child + 1) (records_below rest) n le, steps_within n T env rest (right_below (records_below child + 1) (records_below rest) n le))

-- parts that stand at fewer than n records one below another are read alike under every number of at least n
pub plans_enough : (typed : Text → Text) (owner : Text) (m : Slots) (n depth : ℕ) → n ≤ depth → 1 ≤ n → (types : List Text) (ps : List ReaderPart) (id : Text)
    → Each (λ p. records_below p.steps + 1 ≤ n) ps → read_at collect_reader typed owner m depth types ps id ≡ read_at collect_reader typed owner m n types ps id
plans_enough typed owner m n depth le room types ps id h =
    reads_exact part_below collect_reader (λ k T p short. steps_within k T p.environment p.steps short) typed owner m n depth le room types ps id h

-- so a plan is read alike under every number that is more than the records that it stands at
pub plan_enough : (typed : Text → Text) (owner : Text) (m : Slots) (n : ℕ) (types : List Text) (env : Values) (steps : Reader) (id : Text)
    → records_below steps + 1 ≤ n
    → read_at collect_reader typed owner m n types (record { environment = env; steps = steps } ∷ []) id ≡ plan_reads typed owner m env steps types id
plan_enough typed owner m n types env steps id le =
    plans_enough typed owner m (records_below steps + 1) n le (omega arith) types (record { environment = env; steps = steps } ∷ []) id (omega arith, tt)
