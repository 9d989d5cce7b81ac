-- Fields that stand under their keys stay when they are put there again, and fields in order are what they are put into nothing.
use Rattle.std.proofs.Common.{◌≡◌, ℕ, ◌+◌, ◌<◌, length, get_or, drop, Bool, true, false, true≢false, ◌&&◌, cond, List, [], ◌∷◌, ◌++◌, Option, Some, None, Ordering, Less, Equal, Greater, refl, sym, ap, ◌∙◌, subst, append_assoc, bytes_eq, nat_cmp, is_eq, unwrap_or}
use Rattle.std.proofs.lemmas.List.{drop_more}
use Rattle.std.proofs.lemmas.Map.Text.{is_eq-slice_cmp}
use Rattle.std.proofs.lemmas.Slice.Eq.{bytes_eq-Decides}
use Rattle.std.specs.Cmp.Lexicographic.{slice_cmp, nat_list_cmp_total}
use Rattle.std.specs.FinMap.Entries.{by_order, put}
use Rattle.std.specs.List.{AllByRecursion, list_all}
use Rattle.std.specs.List.Sorted.{IsStrictlySortedBy}
use Rattle.std.specs.Map.{keys_of}
use Rattle.std.specs.Ordering.{ordering_reverse}
use Rattle.store_conn.specs.gql_plain.Order.{AreInOrder, member_at}
use Rattle.store_conn.specs.store_record.Equal.{field_eq-Decides}
use Rattle.store_conn.specs.store_record.Keys.{Text}
use Rattle.store_conn.specs.store_record.declared.field.Field.{Field}
use Rattle.store_conn.specs.store_record.declared.record.Record.{Record}
use Rattle.store_conn.specs.store_model.FactRows.{row_onto, with_fields}
use Rattle.store_conn.specs.store_model.Records.{with_field}
use Rattle.store_conn.specs.store_model.declared.facts.FactRow.{FactRow}
use Rattle.store_update.specs.Fields.{is_field, has_field, has_row}

abbrev order : Text → Text → Ordering
order = slice_cmp nat_cmp

abbrev Pairs : Type 0
Pairs = List (Text × Field)

same_text : (a b : Text) → order a b ≡ Equal → a ≡ b
same_text a b e = (bytes_eq-Decides a b).0 (sym (is_eq-slice_cmp a b) ∙ ap is_eq e)

turned : (a b : Text) (o : Ordering) → order a b ≡ o → order b a ≡ ordering_reverse o
turned a b o p = nat_list_cmp_total.antisymm b a ∙ ap ordering_reverse p

itself : (a : Text) → order a a ≡ Equal
itself a = at (order a a) refl
  where
    at : (o : Ordering) → order a a ≡ o → o ≡ Equal
    at Less p = absurd (true≢false (sym ((bytes_eq-Decides a a).1 refl) ∙ sym (is_eq-slice_cmp a a) ∙ ap is_eq p))
    at Equal p = refl
    at Greater p = absurd (true≢false (sym ((bytes_eq-Decides a a).1 refl) ∙ sym (is_eq-slice_cmp a a) ∙ ap is_eq p))

-- ---- a field that stands there

abbrev IsNone : Option Field → Type 0
IsNone None = Unit {0}
IsNone (Some f) = ⊥

-- a key that is found among keys above another is above it
above : (low key : Text) (fields : Pairs) (field : Field) → AllByRecursion (λ k. order low k ≡ Less) (keys_of fields) → member_at fields key ≡ Some field → order low key ≡ Less
above low key [] field below e = absurd (subst IsNone e tt)
above low key (f ∷ fields) field below e = at (bytes_eq f.0 key) refl e (above low key fields field below.1)
  where
    at : (b : Bool) → bytes_eq f.0 key ≡ b → cond b (Some f.1) (member_at fields key) ≡ Some field → (member_at fields key ≡ Some field → order low key ≡ Less) → order low key ≡ Less
    at true p found rest = subst (λ k. order low k ≡ Less) ((bytes_eq-Decides f.0 key).0 p) below.0
    at false p found rest = rest found

abbrev some_or : Field → Option Field → Field
some_or field o = unwrap_or o field

pub put_same : (key : Text) (field : Field) (fields : Pairs) → AreInOrder (keys_of fields) → member_at fields key ≡ Some field → put order key field fields ≡ fields
unfolding IsStrictlySortedBy
put_same key field [] sorted e = absurd (subst IsNone e tt)
put_same key field (f ∷ fields) sorted e = at (bytes_eq f.0 key) refl e (put_same key field fields sorted.1)
  where
    at : (b : Bool) → bytes_eq f.0 key ≡ b → cond b (Some f.1) (member_at fields key) ≡ Some field → (member_at fields key ≡ Some field → put order key field fields ≡ fields)
        → put order key field (f ∷ fields) ≡ f ∷ fields
    at true p found rest =
        let same : f.0 ≡ key = (bytes_eq-Decides f.0 key).0 p in
        let tied : order key f.0 ≡ Equal = subst (λ k. order key k ≡ Equal) (sym same) (itself key) in
        ap (λ o. by_order o ((key, field) ∷ f ∷ fields) ((f.0, field) ∷ fields) (f ∷ put order key field fields)) tied
        ∙ ap (λ x. (f.0, x) ∷ fields) (sym (ap (some_or field) found))
    at false p found rest =
        let over : order key f.0 ≡ Greater = turned f.0 key Less (above f.0 key fields field sorted.0 found) in
        ap (λ o. by_order o ((key, field) ∷ f ∷ fields) ((f.0, field) ∷ fields) (f ∷ put order key field fields)) over
        ∙ ap (λ xs. f ∷ xs) (rest found)

is_there : (found : Option Field) (field : Field) → is_field found field ≡ true → found ≡ Some field
is_there None field h = absurd (true≢false (sym h))
is_there (Some old) field h = ap Some ((field_eq-Decides old field).0 h)

-- a record that has the field stays
pub field_kept : (key : Text) (field : Field) (r : Record) → AreInOrder (keys_of r.fields) → has_field r.fields (key, field) ≡ true → with_field key field r ≡ r
field_kept key field r sorted h =
    ap (λ fields. record { type_name = r.type_name; fields = fields }) (put_same key field r.fields sorted (is_there (member_at r.fields key) field h))

first_and : (a b : Bool) → (a && b) ≡ true → a ≡ true
first_and true b h = refl
first_and false b h = h

second_and : (a b : Bool) → (a && b) ≡ true → b ≡ true
second_and true b h = h
second_and false b h = absurd (true≢false (sym h))

fields_kept : (news : Pairs) (fields : Pairs) → AreInOrder (keys_of fields) → list_all (has_field fields) news ≡ true → with_fields news fields ≡ fields
fields_kept [] fields sorted h = refl
fields_kept (f ∷ news) fields sorted h =
    let first : has_field fields f ≡ true = first_and (has_field fields f) (list_all (has_field fields) news) h in
    let rest : list_all (has_field fields) news ≡ true = second_and (has_field fields f) (list_all (has_field fields) news) h in
    ap (with_fields news) (put_same f.0 f.1 fields sorted (is_there (member_at fields f.0) f.1 first)) ∙ fields_kept news fields sorted rest

-- a record that has a row stays
pub row_kept : (row : FactRow) (r : Record) → AreInOrder (keys_of r.fields) → has_row row r ≡ true → row_onto row r ≡ r
row_kept row r sorted h =
    let same_name : row.type_name ≡ r.type_name = sym ((bytes_eq-Decides r.type_name row.type_name).0 (first_and (bytes_eq r.type_name row.type_name) (list_all (has_field r.fields) row.fields) h)) in
    let same_fields : with_fields row.fields r.fields ≡ r.fields = fields_kept row.fields r.fields sorted (second_and (bytes_eq r.type_name row.type_name) (list_all (has_field r.fields) row.fields) h) in
    λ i. record { type_name = same_name i; fields = same_fields i }

-- ---- fields, put one after another

pub with_next : (news : Pairs) (i : ℕ) (f : Text × Field) (fields : Pairs) → i < length news → f ≡ get_or news i f
    → with_fields (drop (i + 1) news) (put order f.0 f.1 fields) ≡ with_fields (drop i news) fields
with_next news i f fields within is = sym (ap (λ xs. with_fields xs fields) (drop_more news i f within ∙ ap (λ x. x ∷ drop (i + 1) news) (sym is)))

-- ---- fields in order, put into none

-- each of these keys stands below another
abbrev Below : Text → Pairs → Type 0
Below key fields = AllByRecursion (λ k. order k key ≡ Less) (keys_of fields)

put_last : (f : Text × Field) (fields : Pairs) → Below f.0 fields → put order f.0 f.1 fields ≡ fields ++ f ∷ []
put_last f [] below = refl
put_last f (e ∷ fields) below =
    ap (λ o. by_order o (f ∷ e ∷ fields) ((e.0, f.1) ∷ fields) (e ∷ put order f.0 f.1 fields)) (turned e.0 f.0 Less below.0)
    ∙ ap (λ xs. e ∷ xs) (put_last f fields below.1)

-- a key stands above all of one list, and below all of another
abbrev BelowAll : Pairs → Pairs → Type 0
BelowAll before later = AllByRecursion (λ k. Below k before) (keys_of later)

below_more : (key : Text) (f : Text × Field) (before : Pairs) → Below key before → order f.0 key ≡ Less → Below key (before ++ f ∷ [])
below_more key f [] below lt = (lt, tt)
below_more key f (e ∷ before) below lt = (below.0, below_more key f before below.1 lt)

below_next : (f : Text × Field) (before later : Pairs) → BelowAll before later → AllByRecursion (λ k. order f.0 k ≡ Less) (keys_of later) → BelowAll (before ++ f ∷ []) later
below_next f before [] below over = tt
below_next f before (e ∷ later) below over = (below_more e.0 f before below.0 over.0, below_next f before later below.1 over.1)

put_after : (before later : Pairs) → AreInOrder (keys_of later) → BelowAll before later → with_fields later before ≡ before ++ later
unfolding IsStrictlySortedBy
put_after before [] sorted below = sym (nothing_after before)
  where
    nothing_after : (fields : Pairs) → fields ++ [] ≡ fields
    nothing_after [] = refl
    nothing_after (e ∷ fields) = ap (λ xs. e ∷ xs) (nothing_after fields)
put_after before (f ∷ later) sorted below =
    ap (with_fields later) (put_last f before below.0)
    ∙ put_after (before ++ f ∷ []) later sorted.1 (below_next f before later below.1 sorted.0)
    ∙ append_assoc before (f ∷ []) later

nothing_below : (later : Pairs) → BelowAll [] later
nothing_below [] = tt
nothing_below (e ∷ later) = (tt, nothing_below later)

pub put_into_none : (fields : Pairs) → AreInOrder (keys_of fields) → with_fields fields [] ≡ fields
put_into_none fields sorted = put_after [] fields sorted (nothing_below fields)
