-- Facts in order, some of them in rows, some in an open row: the next one may be taken.
use Rattle.std.proofs.Common.{◌≡◌, arith, length, Bool, true, false, true≢false, ◌&&◌, ◌||◌, cond, List, [], ◌∷◌, ◌++◌, map, Option, Some, None, is_some, Ordering, Less, Equal, Greater, is_eq, bytes_eq, append_assoc, refl, sym, ap, ◌∙◌, subst}
use Rattle.std.proofs.lemmas.Cmp.{nat_list_cmp_total, tied_itself}
use Rattle.std.proofs.lemmas.Map.Text.{is_eq-slice_cmp}
use Rattle.std.proofs.lemmas.Slice.Eq.{bytes_eq-Decides}
use Rattle.std.specs.List.{AllByRecursion, list_any}
use Rattle.std.specs.List.Sorted.{IsStrictlySortedBy}
use Rattle.std.specs.Ordering.{is_lt, ordering_then, ordering_reverse}
use Rattle.gql_order.specs.gql_plain.Order.{member_at}
use Rattle.store_model.specs.store_record.Keys.{Text}
use Rattle.store_model.specs.store_record.declared.field.Field.{Field}
use Rattle.store_model.proofs.Least.{each_append, each_left, each_right, each_so}
use Rattle.store_model.specs.FactOrder.{text_cmp, fact_cmp}
use Rattle.store_model.specs.FactRows.{fact_at}
use Rattle.store_model.specs.Records.{typename}
use Rattle.store_model.specs.declared.facts.Fact.{Fact}
use Rattle.store_report.proofs.RowSteps.{Entries, Below}
use Rattle.store_report.specs.Gathering.{IsNamed, AreNamed}
use Rattle.store_report.specs.Rows.{with_name, entries_of, is_filled, shown, shown_some, AreBefore, IsOpen, IsOpenAt, CanTake, CanTakeFirst, CanTakeAt}
use Rattle.store_report.specs.SaidFacts.{fact_of, put_of, place_cmp}
use Rattle.store_report.specs.declared.rows.OpenRow.{OpenRow}
use Rattle.store_report.specs.declared.said.SaidFact.{SaidFact}

abbrev has_name : Text → List Fact → Bool
has_name id facts = list_any (λ f. bytes_eq f.id id && bytes_eq f.key typename) facts

-- facts of which each id has the name of its type among all
pub record IsNamedFact (all : List Fact) (f : Fact) : Type 0 where
  pub name : CanTakeFirst f
  pub there : has_name f.id all ≡ true

abbrev pub AreNamedFacts : List Fact → Type 0
AreNamedFacts all = AllByRecursion (IsNamedFact all) all

-- rows that are done, one that is open, and the facts that are left
pub record Rowing (all done : List Fact) (open_row : Option OpenRow) (rest : List Fact) : Type 0 where
  pub whole : done ++ (shown_some open_row ++ rest) ≡ all
  pub at : IsOpenAt done open_row

-- ---- lists in strict order

module _ {A : Type 0} (c : A → A → Ordering) where
  each_before : (x : A) (xs ys : List A) → AllByRecursion (λ y. c x y ≡ Less) (xs ++ ys) → AllByRecursion (λ y. c x y ≡ Less) ys
  each_before x xs ys all = each_right (λ y. c x y ≡ Less) xs ys all

  pub split_before : (xs ys : List A) → IsStrictlySortedBy c (xs ++ ys) → AllByRecursion (λ x. AllByRecursion (λ y. c x y ≡ Less) ys) xs
  unfolding IsStrictlySortedBy
  split_before [] ys up = tt
  split_before (x ∷ xs) ys up = (each_before x xs ys up.0, split_before xs ys up.1)

  pub split_after : (xs ys : List A) → IsStrictlySortedBy c (xs ++ ys) → IsStrictlySortedBy c ys
  unfolding IsStrictlySortedBy
  split_after [] ys up = up
  split_after (x ∷ xs) ys up = split_after xs ys up.1

  pub first_before : (x : A) (xs : List A) → IsStrictlySortedBy c (x ∷ xs) → AllByRecursion (λ y. c x y ≡ Less) xs
  unfolding IsStrictlySortedBy
  first_before x xs up = up.0

any_append : {A : Type 0} (p : A → Bool) (xs ys : List A) → list_any p xs ≡ false → list_any p (xs ++ ys) ≡ list_any p ys
any_append p [] ys e = refl
any_append p (x ∷ xs) ys e = at (p x) e (any_append p xs ys)
  where
    at : (b : Bool) → (b || list_any p xs) ≡ false → (list_any p xs ≡ false → list_any p (xs ++ ys) ≡ list_any p ys) → (b || list_any p (xs ++ ys)) ≡ list_any p ys
    at true h rest = absurd (true≢false h)
    at false h rest = rest h

any_left : {A : Type 0} (p : A → Bool) (xs ys : List A) → list_any p ys ≡ false → list_any p (xs ++ ys) ≡ true → list_any p xs ≡ true
any_left p [] ys e h = absurd (true≢false (sym h ∙ e))
any_left p (x ∷ xs) ys e h = at (p x) h (any_left p xs ys e)
  where
    at : (b : Bool) → (b || list_any p (xs ++ ys)) ≡ true → (list_any p (xs ++ ys) ≡ true → list_any p xs ≡ true) → (b || list_any p xs) ≡ true
    at true g rest = refl
    at false g rest = rest g

-- ---- ids

other_id : (a b : Text) (o : Ordering) → text_cmp a b ≡ o → is_eq o ≡ false → bytes_eq a b ≡ false
other_id a b o e f = sym (is_eq-slice_cmp a b) ∙ ap is_eq e ∙ f

same_id : (a b : Text) → bytes_eq a b ≡ true → a ≡ b
same_id a b e = (bytes_eq-Decides a b).0 e

none_named : (id : Text) (facts : List Fact) → AllByRecursion (λ f. bytes_eq f.id id ≡ false) facts → has_name id facts ≡ false
none_named id [] all = refl
none_named id (f ∷ fs) all = ap (λ b. b && bytes_eq f.key typename || has_name id fs) all.0 ∙ none_named id fs all.1

-- what comes first decides where the ids differ
id_before : (r f : Text) (p : Ordering) → bytes_eq r f ≡ false → ordering_then (text_cmp r f) p ≡ Less → text_cmp r f ≡ Less
id_before r f p other e = at (text_cmp r f) refl e
  where
    at : (o : Ordering) → text_cmp r f ≡ o → ordering_then o p ≡ Less → o ≡ Less
    at Less g h = refl
    at Equal g h = absurd (true≢false (sym (ap is_eq g) ∙ is_eq-slice_cmp r f ∙ other))
    at Greater g h = absurd (true≢false (sym (ap is_lt h)))

id_not_after : (r f g : Text) (p : Ordering) → text_cmp r f ≡ Less → ordering_then (text_cmp f g) p ≡ Less → text_cmp r g ≡ Less
id_not_after r f g p lt e = at (text_cmp f g) refl e
  where
    at : (o : Ordering) → text_cmp f g ≡ o → ordering_then o p ≡ Less → text_cmp r g ≡ Less
    at Less h k = nat_list_cmp_total.trans r f g lt h
    at Equal h k = subst (λ t. text_cmp r t ≡ Less) ((bytes_eq-Decides f g).0 (sym (is_eq-slice_cmp f g) ∙ ap is_eq h)) lt
    at Greater h k = absurd (true≢false (sym (ap is_lt k)))

-- a row without a name of its own names none
named_entry : (id : Text) (es : Entries) → has_name id (map (fact_at id) es) ≡ true → member_at es typename ≡ None → ⊥
named_entry id [] h none = true≢false (sym h)
named_entry id (x ∷ xs) h none = at (bytes_eq x.0 typename) (sym (ap (λ b. b && bytes_eq x.0 typename || has_name id (map (fact_at id) xs)) ((bytes_eq-Decides id id).1 refl)) ∙ h) none (named_entry id xs)
  where
    IsThere : Option Field → Type 0
    IsThere None = ⊥
    IsThere (Some y) = Unit {0}

    at : (b : Bool) → (b || has_name id (map (fact_at id) xs)) ≡ true → cond b (Some x.1) (member_at xs typename) ≡ None → (has_name id (map (fact_at id) xs) ≡ true → member_at xs typename ≡ None → ⊥) → ⊥
    at true g e rest = subst IsThere e tt
    at false g e rest = rest g e

-- ---- the next fact

module _ (id : Text) (f : Fact) where
  entries_below : (es : Entries) → bytes_eq id f.id ≡ true → AllByRecursion (λ g. fact_cmp g f ≡ Less) (map (fact_at id) es) → Below f.key es
  entries_below [] e all = tt
  entries_below (x ∷ xs) e all =
      (ap (λ o. ordering_then o (text_cmp x.0 f.key)) (sym (subst (λ t. text_cmp id t ≡ Equal) (same_id id f.id e) (tied_itself nat_list_cmp_total id))) ∙ all.0, entries_below xs e all.1)

  row_below : (es : Entries) → is_filled es ≡ true → bytes_eq id f.id ≡ false → AllByRecursion (λ g. fact_cmp g f ≡ Less) (map (fact_at id) es) → text_cmp id f.id ≡ Less
  row_below [] filled e all = absurd (true≢false (sym filled))
  row_below (x ∷ xs) filled e all = id_before id f.id (text_cmp x.0 f.key) e all.0

  row_before : (es : Entries) → text_cmp id f.id ≡ Less → AreBefore f.id (map (fact_at id) es)
  row_before [] lt = tt
  row_before (x ∷ xs) lt = (lt, row_before xs lt)

  rest_beyond : (rest : List Fact) → text_cmp id f.id ≡ Less → AllByRecursion (λ g. fact_cmp f g ≡ Less) rest → AllByRecursion (λ g. bytes_eq g.id id ≡ false) rest
  rest_beyond [] lt all = tt
  rest_beyond (g ∷ gs) lt all =
      (other_id g.id id Greater (nat_list_cmp_total.antisymm g.id id ∙ ap ordering_reverse (id_not_after id f.id g.id (text_cmp f.key g.key) lt all.0)) refl, rest_beyond gs lt all.1)

before_other : (id : Text) (facts : List Fact) → AreBefore id facts → AllByRecursion (λ f. bytes_eq f.id id ≡ false) facts
before_other id facts all = each_so (λ f. text_cmp f.id id ≡ Less) (λ f. bytes_eq f.id id ≡ false) facts (λ f e. other_id f.id id Less e refl) all

later_before : (id next : Text) (facts : List Fact) → text_cmp id next ≡ Less → AreBefore id facts → AreBefore next facts
later_before id next facts lt all = each_so (λ f. text_cmp f.id id ≡ Less) (λ f. text_cmp f.id next ≡ Less) facts (λ f e. nat_list_cmp_total.trans f.id id next e lt) all

module _ (all done : List Fact) (r : OpenRow) (f : Fact) (rest : List Fact)
    (whole : done ++ (shown r ++ f ∷ rest) ≡ all) (is_open : IsOpen done r) (filled : is_filled (entries_of r) ≡ true)
    (up : IsStrictlySortedBy fact_cmp all) (named : AreNamedFacts all) where
  row_up : IsStrictlySortedBy fact_cmp (shown r ++ f ∷ rest)
  row_up = split_after fact_cmp done (shown r ++ f ∷ rest) (subst (IsStrictlySortedBy fact_cmp) (sym whole) up)

  row_under : AllByRecursion (λ g. fact_cmp g f ≡ Less) (shown r)
  row_under = each_so (λ g. AllByRecursion (λ h. fact_cmp g h ≡ Less) (f ∷ rest)) (λ g. fact_cmp g f ≡ Less) (shown r) (λ g h. h.0) (split_before fact_cmp (shown r) (f ∷ rest) row_up)

  rest_over : AllByRecursion (λ g. fact_cmp f g ≡ Less) rest
  rest_over = first_before fact_cmp f rest (split_after fact_cmp (shown r) (f ∷ rest) row_up)

  its_name : CanTakeFirst f
  its_name =
      (each_right (IsNamedFact all) (shown r) (f ∷ rest) (each_right (IsNamedFact all) done (shown r ++ f ∷ rest) (subst (λ fs. AllByRecursion (IsNamedFact all) fs) (sym whole) named))).0.name

  row_named : has_name r.id all ≡ true
  row_named = at (entries_of r) filled (each_left (IsNamedFact all) (shown r) (f ∷ rest) (each_right (IsNamedFact all) done (shown r ++ f ∷ rest) (subst (λ fs. AllByRecursion (IsNamedFact all) fs) (sym whole) named)))
    where
      at : (es : Entries) → is_filled es ≡ true → AllByRecursion (IsNamedFact all) (map (fact_at r.id) es) → has_name r.id all ≡ true
      at [] e h = absurd (true≢false (sym e))
      at (x ∷ xs) e h = h.0.there

  closed : bytes_eq r.id f.id ≡ false → is_some r.type_name ≡ true
  closed other = at r.type_name refl
    where
      lt : text_cmp r.id f.id ≡ Less
      lt = row_below r.id f (entries_of r) filled other row_under

      in_row : has_name r.id (shown r) ≡ true
      in_row =
          let whole_named : has_name r.id (done ++ (shown r ++ f ∷ rest)) ≡ true = ap (has_name r.id) whole ∙ row_named in
          any_left (λ g. bytes_eq g.id r.id && bytes_eq g.key typename) (shown r) (f ∷ rest)
          (none_named r.id (f ∷ rest) (other_id f.id r.id Greater (nat_list_cmp_total.antisymm f.id r.id ∙ ap ordering_reverse lt) refl, rest_beyond r.id f rest lt rest_over))
          (sym (any_append (λ g. bytes_eq g.id r.id && bytes_eq g.key typename) done (shown r ++ f ∷ rest) (none_named r.id done (before_other r.id done is_open.after))) ∙ whole_named)

      at : (name : Option Text) → r.type_name ≡ name → is_some name ≡ true
      at (Some n) e = refl
      at None e =
          absurd (named_entry r.id r.fields (subst (λ n. has_name r.id (map (fact_at r.id) (with_name n r.fields)) ≡ true) e in_row) is_open.apart)

  pub can_take : CanTake done r f
  can_take = record {
    name = its_name;
    row = is_open;
    same = λ e. entries_below r.id f (entries_of r) e row_under;
    closed = closed;
    after = λ other.
        let lt = row_below r.id f (entries_of r) filled other row_under in
        each_append (λ g. text_cmp g.id f.id ≡ Less) done (shown r) (later_before r.id f.id done lt is_open.after) (row_before r.id f (entries_of r) lt);
  }

pub can_take_at : (all done : List Fact) (o : Option OpenRow) (f : Fact) (rest : List Fact) → Rowing all done o (f ∷ rest)
    → IsStrictlySortedBy fact_cmp all → AreNamedFacts all → CanTakeAt done o f
can_take_at all done None f rest row up named =
    (row.at, (each_right (IsNamedFact all) done (f ∷ rest) (subst (λ fs. AllByRecursion (IsNamedFact all) fs) (sym row.whole) named)).0.name)
can_take_at all done (Some r) f rest row up named = can_take all done r f rest row.whole row.at.0 row.at.1 up named

pub rowing_next : (all done next : List Fact) (o r : Option OpenRow) (f : Fact) (rest : List Fact) → Rowing all done o (f ∷ rest)
    → next ++ shown_some r ≡ done ++ (shown_some o ++ f ∷ []) → IsOpenAt next r → Rowing all next r rest
rowing_next all done next o r f rest row e is_open = record {
  whole =
      sym (append_assoc next (shown_some r) rest) ∙ ap (λ fs. fs ++ rest) e
      ∙ append_assoc done (shown_some o ++ f ∷ []) rest ∙ ap (λ fs. done ++ fs) (append_assoc (shown_some o) (f ∷ []) rest) ∙ row.whole;
  at = is_open;
}

-- ---- the last row

pub no_items : {A : Type 0} (xs : List A) → length xs ≡ 0 → xs ≡ []
no_items [] e = refl
no_items (x ∷ xs) e = absurd (omega (arith, e))

pub last_named : (all done : List Fact) (r : OpenRow) → Rowing all done (Some r) [] → AreNamedFacts all → is_some r.type_name ≡ true
last_named all done r row named = at r.type_name refl
  where
    its_own : (es : Entries) → is_filled es ≡ true → AllByRecursion (IsNamedFact all) (map (fact_at r.id) es) → has_name r.id all ≡ true
    its_own [] e h = absurd (true≢false (sym e))
    its_own (x ∷ xs) e h = h.0.there

    own : has_name r.id all ≡ true
    own =
        its_own (entries_of r) row.at.1
        (each_left (IsNamedFact all) (shown r) [] (each_right (IsNamedFact all) done (shown r ++ []) (subst (λ fs. AllByRecursion (IsNamedFact all) fs) (sym row.whole) named)))

    in_row : has_name r.id (shown r) ≡ true
    in_row =
        any_left (λ g. bytes_eq g.id r.id && bytes_eq g.key typename) (shown r) [] refl
        (sym (any_append (λ g. bytes_eq g.id r.id && bytes_eq g.key typename) done (shown r ++ []) (none_named r.id done (before_other r.id done row.at.0.after)))
        ∙ ap (has_name r.id) row.whole ∙ own)

    at : (name : Option Text) → r.type_name ≡ name → is_some name ≡ true
    at (Some n) e = refl
    at None e = absurd (named_entry r.id r.fields (subst (λ n. has_name r.id (map (fact_at r.id) (with_name n r.fields)) ≡ true) e in_row) row.at.0.apart)

-- ---- facts as they were gathered

pub facts_rise : (fs : List SaidFact) → IsStrictlySortedBy place_cmp fs → IsStrictlySortedBy fact_cmp (map fact_of fs)
unfolding IsStrictlySortedBy
facts_rise [] up = tt
facts_rise (f ∷ fs) up = (above fs up.0, facts_rise fs up.1)
  where
    above : (gs : List SaidFact) → AllByRecursion (λ g. place_cmp f g ≡ Less) gs → AllByRecursion (λ g. fact_cmp (fact_of f) g ≡ Less) (map fact_of gs)
    above [] all = tt
    above (g ∷ gs) all = (all.0, above gs all.1)

name_of_map : (id : Text) (fs : List SaidFact) → list_any (λ q. bytes_eq q.fact.id id && bytes_eq q.fact.key typename) (map put_of fs) ≡ has_name id (map fact_of fs)
name_of_map id [] = refl
name_of_map id (f ∷ fs) = ap (λ b. bytes_eq f.id id && bytes_eq f.key typename || b) (name_of_map id fs)

named_from : (all fs : List SaidFact) → AllByRecursion (IsNamed (map put_of all)) (map put_of fs) → AllByRecursion (IsNamedFact (map fact_of all)) (map fact_of fs)
named_from all [] h = tt
named_from all (f ∷ fs) h = (record { name = h.0.name; there = sym (name_of_map f.id all) ∙ h.0.there }, named_from all fs h.1)

pub facts_named : (fs : List SaidFact) → AreNamed (map put_of fs) → AreNamedFacts (map fact_of fs)
facts_named fs h = named_from fs fs h
