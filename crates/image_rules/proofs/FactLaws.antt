-- Facts, row by row.
use Rattle.std.proofs.Common.{◌≡◌, ℕ, zero, suc, ◌<◌, Bool, true, false, true≢false, cond, ◌&&◌, ◌||◌, List, [], ◌∷◌, length, get_or, map, Option, Some, None, Ordering, Less, Equal, Greater, is_eq, is_some, bytes_eq, nat_cmp, refl, sym, ap, subst, ◌∙◌, arith}
use Rattle.std.proofs.lemmas.List.Folds.{list_all-append, list_all-map, list_any-append}
use Rattle.std.proofs.lemmas.Map.Text.{is_eq-slice_cmp}
use Rattle.std.proofs.lemmas.Slice.Eq.{bytes_eq-Decides}
use Rattle.std.specs.Cmp.Lexicographic.{slice_cmp}
use Rattle.std.specs.FinMap.Entries.{by_order, put as put_entry}
use Rattle.std.specs.List.{AllByRecursion, list_all, list_any}
use Rattle.std.specs.List.Sorted.{IsStrictlySortedBy}
use Rattle.gql_plain.proofs.Booleans.{and_false, or_false}
use Rattle.gql_plain.proofs.InOrder.{below_at}
use Rattle.gql_plain.specs.Order.{AreInOrder, member_at}
use Rattle.image_rules.specs.FactTests.{has_key, is_row}
use Rattle.image_text.specs.Images.{has_fact, has_ids, is_fact}
use Rattle.store_model.specs.FactOrder.{text_cmp}
use Rattle.store_model.specs.FactRows.{IsFactRow, fact_at, facts_of, facts_of_row, fields_of}
use Rattle.store_model.specs.Events.{is_there}
use Rattle.store_model.specs.Records.{typename}
use Rattle.store_model.specs.declared.facts.Fact.{Fact}
use Rattle.store_model.specs.declared.facts.FactRow.{FactRow}
use Rattle.store_model.specs.store_record.Keys.{Text}
use Rattle.store_model.specs.store_record.declared.field.Field.{Field}

-- ---- the fields of a row, the name of its type among them

abbrev Fields : Type 0
Fields = List (Text × Field)

or_turn : (a b c : Bool) → (a || (b || c)) ≡ (b || (a || c))
or_turn true true c = refl
or_turn true false c = refl
or_turn false true c = refl
or_turn false false c = refl

tied : (a b : Text) → text_cmp a b ≡ Equal → a ≡ b
tied a b e = (bytes_eq-Decides a b).0 (sym (is_eq-slice_cmp a b) ∙ ap is_eq e)

module _ (p : Text → Bool) (key : Text) (value : Field) where
  or_same : (b c : Bool) → (b || c) ≡ (b || (b || c))
  or_same true c = refl
  or_same false c = refl

  abbrev any : Fields → Bool
  any = list_any (λ (g : Text × Field). p g.0)

  -- a key is among those of fields that one was put into just where it is the one that was put, or was there
  any_put : (fs : Fields) → any (put_entry text_cmp key value fs) ≡ (p key || any fs)
  any_put [] = refl
  any_put (f ∷ fs) = at (any_put fs) (text_cmp key f.0) refl
    where
      at : any (put_entry text_cmp key value fs) ≡ (p key || any fs)
          → (o : Ordering) → text_cmp key f.0 ≡ o → any (by_order o ((key, value) ∷ f ∷ fs) ((f.0, value) ∷ fs) (f ∷ put_entry text_cmp key value fs)) ≡ (p key || (p f.0 || any fs))
      at rest Less e = refl
      at rest Equal e = or_same (p f.0) (any fs) ∙ ap (λ k. p k || (p f.0 || any fs)) (sym (tied key f.0 e))
      at rest Greater e = ap (λ b. p f.0 || b) rest ∙ or_turn (p f.0) (p key) (any fs)

some_any : (key : Text) (fs : Fields) → list_any (λ (f : Text × Field). bytes_eq f.0 key) fs ≡ is_some (member_at fs key)
some_any key [] = refl
some_any key (f ∷ fs) = by (some_any key fs) (bytes_eq f.0 key)
  where
    by : list_any (λ (g : Text × Field). bytes_eq g.0 key) fs ≡ is_some (member_at fs key)
        → (b : Bool) → (b || list_any (λ (g : Text × Field). bytes_eq g.0 key) fs) ≡ is_some (cond b (Some f.1) (member_at fs key))
    by rest true = refl
    by rest false = rest

any_of_id : (here id key : Text) (fs : Fields) → has_fact (map (fact_at here) fs) id key ≡ (bytes_eq here id && list_any (λ (f : Text × Field). bytes_eq f.0 key) fs)
any_of_id here id key [] = sym (and_false (bytes_eq here id))
any_of_id here id key (f ∷ fs) = ap (λ b. (bytes_eq here id && bytes_eq f.0 key) || b) (any_of_id here id key fs) ∙ by (bytes_eq here id)
  where
    rest : Bool
    rest = list_any (λ (g : Text × Field). bytes_eq g.0 key) fs

    by : (b : Bool) → ((b && bytes_eq f.0 key) || (b && rest)) ≡ (b && (bytes_eq f.0 key || rest))
    by true = refl
    by false = refl

fact_in_row : (r : FactRow) (id key : Text) → has_fact (facts_of_row r) id key ≡ (bytes_eq r.id id && has_key r key)
fact_in_row r id key =
    any_of_id r.id id key (fields_of r)
    ∙ ap (λ b. bytes_eq r.id id && b) (any_put (λ k. bytes_eq k key) typename _ r.fields ∙ ap (λ b. bytes_eq typename key || b) (some_any key r.fields))

facts_of_more : (r : FactRow) (rs : List FactRow) (id key : Text) → has_fact (facts_of (r ∷ rs)) id key ≡ ((bytes_eq r.id id && has_key r key) || has_fact (facts_of rs) id key)
facts_of_more r rs id key =
    list_any-append (λ (f : Fact). bytes_eq f.id id && bytes_eq f.key key) (facts_of_row r) (facts_of rs)
    ∙ ap (λ b. b || has_fact (facts_of rs) id key) (fact_in_row r id key)

-- where no row is of the id, no fact is
pub none_of_id : (rs : List FactRow) (id key : Text) → ((k : ℕ) (d : FactRow) → k < length rs → bytes_eq (get_or rs k d).id id ≡ false) → has_fact (facts_of rs) id key ≡ false
none_of_id [] id key none = refl
none_of_id (r ∷ rs) id key none =
    facts_of_more r rs id key ∙ ap (λ b. (b && has_key r key) || has_fact (facts_of rs) id key) (none zero r (omega arith))
    ∙ none_of_id rs id key (λ k d lt. none (suc k) d (omega arith))

differ : (a b : Text) → text_cmp a b ≡ Less → bytes_eq b a ≡ false
differ a b e = by (bytes_eq b a) refl
  where
    by : (c : Bool) → bytes_eq b a ≡ c → c ≡ false
    by true h = absurd (true≢false (sym (subst (λ t. is_eq (text_cmp a t) ≡ true) (sym ((bytes_eq-Decides b a).0 h)) (is_eq-slice_cmp a a ∙ (bytes_eq-Decides a a).1 refl)) ∙ ap is_eq e))
    by false h = refl

pub ids_rise : (rs : List FactRow) → IsStrictlySortedBy (λ (a : FactRow) (b : FactRow). text_cmp a.id b.id) rs → AreInOrder (map (λ (r : FactRow). r.id) rs)
unfolding IsStrictlySortedBy
ids_rise [] sorted = tt
ids_rise (r ∷ rs) sorted = (below rs sorted.0, ids_rise rs sorted.1)
  where
    below : (ss : List FactRow) → AllByRecursion (λ (s : FactRow). text_cmp r.id s.id ≡ Less) ss → AllByRecursion (λ later. slice_cmp nat_cmp r.id later ≡ Less) (map (λ (s : FactRow). s.id) ss)
    below [] all = tt
    below (s ∷ ss) all = (all.0, below ss all.1)

-- where a row is of the id, its facts are all of that id
pub one_of_id : (rs : List FactRow) (id key : Text) (k : ℕ) (d : FactRow) → k < length rs → AreInOrder (map (λ (r : FactRow). r.id) rs) → text_cmp (get_or rs k d).id id ≡ Equal
    → has_fact (facts_of rs) id key ≡ has_key (get_or rs k d) key
unfolding IsStrictlySortedBy
one_of_id [] id key k d lt sorted e = absurd (omega arith)
one_of_id (r ∷ rs) id key zero d lt sorted e =
    let same = tied r.id id e in
    facts_of_more r rs id key ∙ ap (λ b. (b && has_key r key) || has_fact (facts_of rs) id key) ((bytes_eq-Decides r.id id).1 same)
    ∙ ap (λ b. has_key r key || b)
    (none_of_id rs id key (λ k x lt. subst (λ t. bytes_eq (get_or rs k x).id t ≡ false) same (differ r.id (get_or rs k x).id (below_at (λ (s : FactRow). s.id) (λ later. slice_cmp nat_cmp r.id later ≡ Less) rs k x lt sorted.0))))
    ∙ or_false (has_key r key)
one_of_id (r ∷ rs) id key (suc k) d lt sorted e =
    let there = tied (get_or rs k d).id id e in
    let below = subst (λ t. text_cmp r.id t ≡ Less) there (below_at (λ (s : FactRow). s.id) (λ later. slice_cmp nat_cmp r.id later ≡ Less) rs k d (omega arith) sorted.0) in
    facts_of_more r rs id key ∙ ap (λ b. (b && has_key r key) || has_fact (facts_of rs) id key) (sym (is_eq-slice_cmp r.id id) ∙ ap is_eq below)
    ∙ one_of_id rs id key k d (omega arith) sorted.1 e

-- ---- what is asked of each fact

abbrev have_ids : Fields → Bool
have_ids = list_all (λ (f : Text × Field). has_ids f.1)

module _ (key : Text) (value : Field) (leaf : has_ids value ≡ true) where
  none_there : (b : Bool) (f : Field) (o : Option Field) → cond b (Some f) o ≡ None → (b ≡ false) × (o ≡ None)
  none_there true f o e = absurd (true≢false (ap is_some e))
  none_there false f o e = (refl, e)

  all_put : (fs : Fields) → member_at fs key ≡ None → have_ids (put_entry text_cmp key value fs) ≡ have_ids fs
  all_put [] apart = ap (λ b. b && true) leaf
  all_put (f ∷ fs) apart =
      let parts = none_there (bytes_eq f.0 key) f.1 (member_at fs key) apart in at parts.0 (all_put fs parts.1) (text_cmp key f.0) refl
    where
      at : bytes_eq f.0 key ≡ false → have_ids (put_entry text_cmp key value fs) ≡ have_ids fs → (o : Ordering) → text_cmp key f.0 ≡ o → have_ids (by_order o ((key, value) ∷ f ∷ fs) ((f.0, value) ∷ fs) (f ∷ put_entry text_cmp key value fs)) ≡ (has_ids f.1 && have_ids fs)
      at other rest Less e = ap (λ b. b && (has_ids f.1 && have_ids fs)) leaf
      at other rest Equal e = absurd (true≢false (sym ((bytes_eq-Decides f.0 key).1 (sym (tied key f.0 e))) ∙ other))
      at other rest Greater e = ap (λ b. has_ids f.1 && b) rest

-- fields with one more are some fields
once : (b : Bool) (key : Text) (value : Field) (fs : Fields) → list_all (λ (f : Text × Field). b && has_ids f.1) (put_entry text_cmp key value fs) ≡ (b && have_ids (put_entry text_cmp key value fs))
once true key value fs = refl
once false key value [] = refl
once false key value (f ∷ fs) = at (text_cmp key f.0)
  where
    at : (o : Ordering) → list_all (λ (g : Text × Field). false && has_ids g.1) (by_order o ((key, value) ∷ f ∷ fs) ((f.0, value) ∷ fs) (f ∷ put_entry text_cmp key value fs)) ≡ false
    at Less = refl
    at Equal = refl
    at Greater = refl

row_facts : (r : FactRow) → IsFactRow r → list_all is_fact (facts_of_row r) ≡ is_row r
row_facts r is =
    list_all-map is_fact (fact_at r.id) (fields_of r) ∙ once (is_there r.id) typename _ r.fields
    ∙ ap (λ b. is_there r.id && b) (all_put typename _ refl r.fields is.apart)

-- the facts of rows are those of an image where each row is
pub all_rows : (rs : List FactRow) → AllByRecursion IsFactRow rs → list_all is_fact (facts_of rs) ≡ list_all is_row rs
all_rows [] each = refl
all_rows (r ∷ rs) each =
    list_all-append is_fact (facts_of_row r) (facts_of rs) ∙ (λ i. row_facts r each.0 i && all_rows rs each.1 i)
