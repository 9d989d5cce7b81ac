-- The weight of an entry, and what it bounds.
use Rattle.std.proofs.Common.{◌≡◌, ◌+◌, ◌*◌, ◌≤◌, List, [], ◌∷◌, ◌++◌, map, length, refl, ap, ◌∙◌, arith, length-append, Ordering, Less, Equal, Greater}
use Rattle.std.specs.FinMap.Entries.{by_order, put as put_entry}
use Rattle.std.specs.Ordering.{match_ordering}
use Rattle.store_conn.specs.gql_plain.Order.{sorted_texts, with_text}
use Rattle.store_conn.specs.gql_plain.declared.plain.Plain.TheVariants.{Text as Words}
use Rattle.store_conn.specs.store_record.Keys.{Text}
use Rattle.store_conn.specs.store_record.declared.field.Field.{Field}
use Rattle.store_conn.specs.store_record.declared.field.Field.TheVariants.{Leaf}
use Rattle.store_conn.specs.store_model.Entries.{Looks, asked_by_facts, asked_by_page, asked_by_pages, asked_by_commands, asked_of_parent, weights, weight, merge_all, not_among, number_asked, of_ids}
use Rattle.store_conn.specs.store_model.FactOrder.{text_cmp}
use Rattle.store_conn.specs.store_model.FactRows.{fact_at, facts_of, facts_of_row, fields_of}
use Rattle.store_conn.specs.store_model.Records.{Records, live, put, typename}
use Rattle.store_conn.specs.store_model.declared.entry.Entry.{Entry}
use Rattle.store_conn.specs.store_model.declared.facts.Fact.{Fact}
use Rattle.store_conn.specs.store_model.declared.facts.FactRow.{FactRow}
use Rattle.store_conn.specs.store_model.declared.facts.HandleFact.{HandleFact}
use Rattle.store_update.specs.Touched.{most}

pub weights-append : (xs ys : List Looks) → weights (xs ++ ys) ≡ weights xs + weights ys
weights-append [] ys = omega arith
weights-append (x ∷ xs) ys = omega (arith, weights-append xs ys)

facts_weigh : (fs : List Fact) → weights (asked_by_facts fs) ≡ 2 * length fs
facts_weigh [] = refl
facts_weigh (f ∷ fs) =
    let one : number_asked (of_ids (f.id ∷ [])) ≡ 1 = refl in
    omega (arith, one, facts_weigh fs)

-- the weight of an entry is that of its facts, its pages and its commands
pub weight_is : (e : Entry) (m facts merged : Records) → facts ≡ put e.facts.facts m → merged ≡ merge_all e.facts.handles facts
    → weight e m ≡ 2 * length e.facts.facts + weights (asked_by_pages e.facts.handles facts) + weights (asked_by_commands e.commands merged)
weight_is e m facts merged made put_on =
    let first = asked_by_facts e.facts.facts in
    let pages = asked_by_pages e.facts.handles in
    let commands = asked_by_commands e.commands in
    let before = put e.facts.facts m in
    let whole : weights (first ++ pages before ++ commands (merge_all e.facts.handles before)) ≡ weights (first ++ pages before) + weights (commands (merge_all e.facts.handles before)) =
    weights-append (first ++ pages before) (commands (merge_all e.facts.handles before)) in
    let same_pages : weights (pages facts) ≡ weights (pages before) = ap (λ m. weights (pages m)) made in
    let same_commands : weights (commands merged) ≡ weights (commands (merge_all e.facts.handles before)) = ap (λ m. weights (commands m)) (put_on ∙ ap (merge_all e.facts.handles) made) in
    omega (arith, whole, weights-append first (pages before), facts_weigh e.facts.facts, same_pages, same_commands)

-- ---- what a page and a command look at and put is within what they ask for

with_some : (text : Text) (texts : List Text) → 1 ≤ length (with_text text texts)
with_some text [] = omega arith
with_some text (first ∷ rest) = at (text_cmp text first)
  where
    at : (o : Ordering) → 1 ≤ length (match_ordering o (text ∷ first ∷ rest) (first ∷ rest) (first ∷ with_text text rest))
    at Less = omega arith
    at Equal = omega arith
    at Greater = omega arith

some_asked : (id : Text) (ids edges : List Text) → 1 ≤ length edges + length (sorted_texts (not_among edges (id ∷ ids)))
some_asked id ids [] = omega (arith, with_some id (sorted_texts (not_among [] ids)))
some_asked id ids (e ∷ edges) = omega arith

module _ (h : HandleFact) (m : Records) where
  page_asks : 1 ≤ number_asked (asked_by_page h m)
  page_asks = some_asked h.parent (asked_of_parent h (live h.parent m) m).ids (asked_of_parent h (live h.parent m) m).edges

  pub page_most : 6 + 2 * length (asked_by_page h m).edges ≤ most (asked_by_page h m)
  page_most = omega (arith, page_asks)

pub command_most : (asked : Looks) → 4 + 2 * length asked.edges ≤ most asked
command_most asked = omega arith

-- ---- each row has a fact

put_there : (key : Text) (field : Field) (fields : List (Text × Field)) → 1 ≤ length (put_entry text_cmp key field fields)
put_there key field [] = omega arith
put_there key field (f ∷ fields) = at (text_cmp key f.0)
  where
    at : (o : Ordering) → 1 ≤ length (by_order o ((key, field) ∷ f ∷ fields) ((f.0, field) ∷ fields) (f ∷ put_entry text_cmp key field fields))
    at Less = omega arith
    at Equal = omega arith
    at Greater = omega arith

pub fields_there : (r : FactRow) → 1 ≤ length (fields_of r)
fields_there r = put_there typename (Leaf (Words r.type_name)) r.fields

mapped : (id : Text) (fields : List (Text × Field)) → length (map (fact_at id) fields) ≡ length fields
mapped id [] = refl
mapped id (f ∷ fields) = omega (arith, mapped id fields)

pub rows_few : (rows : List FactRow) → length rows ≤ length (facts_of rows)
rows_few [] = omega arith
rows_few (r ∷ rows) =
    omega (arith, rows_few rows, length-append (facts_of_row r) (facts_of rows), mapped r.id (fields_of r), fields_there r)
