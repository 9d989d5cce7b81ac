-- The facts of rows rise by id and then by key.
use Rattle.std.proofs.Common.{◌≡◌, List, [], ◌∷◌, ◌++◌, map, Less, ap, ◌∙◌}
use Rattle.std.proofs.lemmas.Cmp.{nat_list_cmp_total, tied_itself}
use Rattle.std.specs.List.{AllByRecursion}
use Rattle.std.specs.List.Sorted.{IsStrictlySortedBy}
use Rattle.std.specs.Map.{keys_of}
use Rattle.std.specs.Ordering.{ordering_then}
use Rattle.store_record.specs.gql_plain.Order.{AreInOrder}
use Rattle.store_record.specs.gql_plain.declared.plain.Plain.TheVariants.{Text as Words}
use Rattle.store_record.proofs.Puts.{AreInOrder-put}
use Rattle.store_record.specs.Keys.{Text}
use Rattle.store_record.specs.declared.field.Field.{Field}
use Rattle.store_record.specs.declared.field.Field.TheVariants.{Leaf}
use Rattle.store_model.proofs.Least.{each_append}
use Rattle.store_model.specs.FactOrder.{text_cmp, fact_cmp}
use Rattle.store_model.specs.FactRows.{fact_at, fields_of, facts_of_row, facts_of, HaveFieldsInOrder, FactsAreInOrder, IsRowAfter}
use Rattle.store_model.specs.Records.{typename}
use Rattle.store_model.specs.declared.facts.Fact.{Fact}
use Rattle.store_model.specs.declared.facts.FactRow.{FactRow}

-- ---- one row

below_same : (id key : Text) (value : Field) (fs : List (Text × Field)) → AllByRecursion (λ k. text_cmp key k ≡ Less) (keys_of fs)
    → AllByRecursion (λ g. fact_cmp (fact_at id (key, value)) g ≡ Less) (map (fact_at id) fs)
below_same id key value [] all = tt
below_same id key value (f ∷ fs) all =
    (ap (λ o. ordering_then o (text_cmp key f.0)) (tied_itself nat_list_cmp_total id) ∙ all.0, below_same id key value fs all.1)

row_rises : (id : Text) (fs : List (Text × Field)) → AreInOrder (keys_of fs) → IsStrictlySortedBy fact_cmp (map (fact_at id) fs)
unfolding IsStrictlySortedBy
row_rises id [] order = tt
row_rises id (f ∷ fs) order = (below_same id f.0 f.1 fs order.0, row_rises id fs order.1)

-- ---- a row before others

below_row : (f : Fact) (id : Text) (fs : List (Text × Field)) → text_cmp f.id id ≡ Less → AllByRecursion (λ g. fact_cmp f g ≡ Less) (map (fact_at id) fs)
below_row f id [] lt = tt
below_row f id (g ∷ gs) lt = (ap (λ o. ordering_then o (text_cmp f.key g.0)) lt, below_row f id gs lt)

below_rows : (f : Fact) (rs : List FactRow) → AllByRecursion (λ r. text_cmp f.id r.id ≡ Less) rs → AllByRecursion (λ g. fact_cmp f g ≡ Less) (facts_of rs)
below_rows f [] all = tt
below_rows f (r ∷ rs) all =
    each_append (λ g. fact_cmp f g ≡ Less) (facts_of_row r) (facts_of rs) (below_row f r.id (fields_of r) all.0) (below_rows f rs all.1)

row_below : (id : Text) (fs : List (Text × Field)) (rs : List FactRow) → AllByRecursion (λ r. text_cmp id r.id ≡ Less) rs
    → AllByRecursion (λ f. AllByRecursion (λ g. fact_cmp f g ≡ Less) (facts_of rs)) (map (fact_at id) fs)
row_below id [] rs all = tt
row_below id (f ∷ fs) rs all = (below_rows (fact_at id f) rs all, row_below id fs rs all)

-- ---- all rows

append_sorted : (fs gs : List Fact) → IsStrictlySortedBy fact_cmp fs → IsStrictlySortedBy fact_cmp gs
    → AllByRecursion (λ f. AllByRecursion (λ g. fact_cmp f g ≡ Less) gs) fs → IsStrictlySortedBy fact_cmp (fs ++ gs)
unfolding IsStrictlySortedBy
append_sorted [] gs a b all = b
append_sorted (f ∷ fs) gs a b all = (each_append (λ g. fact_cmp f g ≡ Less) fs gs a.0 all.0, append_sorted fs gs a.1 b all.1)

rows_rise : (rows : List FactRow) → IsStrictlySortedBy (λ a b. text_cmp a.id b.id) rows → HaveFieldsInOrder rows → IsStrictlySortedBy fact_cmp (facts_of rows)
unfolding IsStrictlySortedBy
rows_rise [] order fields = tt
rows_rise (r ∷ rs) order fields =
    append_sorted (facts_of_row r) (facts_of rs)
    (row_rises r.id (fields_of r) (AreInOrder-put typename (Leaf (Words r.type_name)) r.fields fields.0))
    (rows_rise rs order.1 fields.1)
    (row_below r.id (fields_of r) rs order.0)

pub facts_rise : FactsAreInOrder
facts_rise rows are fields = rows_rise rows are.order fields

-- ---- a row after another

facts_before : (id later : Text) (fs : List (Text × Field)) → text_cmp id later ≡ Less → AllByRecursion (λ f. text_cmp f.id later ≡ Less) (map (fact_at id) fs)
facts_before id later [] lt = tt
facts_before id later (f ∷ fs) lt = (lt, facts_before id later fs lt)

-- a row stands after the facts of one with a lesser id
pub after_row : (before r : FactRow) → text_cmp before.id r.id ≡ Less → IsRowAfter r (facts_of_row before)
after_row before r lt = facts_before before.id r.id (fields_of before) lt
