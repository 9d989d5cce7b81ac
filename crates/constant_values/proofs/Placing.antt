-- The entries of a map beside the pairs that they stand for.
use Rattle.std.proofs.Common.{◌≡◌, ℕ, true, false, true≢false, cond, List, [], ◌∷◌, ◌++◌, Some, is_some, Ordering, Less, Equal, Greater, nat_cmp, is_eq, refl, sym, ap, subst, ◌∙◌}
use Rattle.std.proofs.lemmas.List.{map-append}
use Rattle.std.proofs.lemmas.Map.Text.{is_eq-slice_cmp}
use Rattle.std.proofs.lemmas.Slice.Eq.{bytes_eq-Decides}
use Rattle.std.specs.BTreeMap.{insert_entry, is_at}
use Rattle.std.specs.Cmp.Lexicographic.{slice_cmp, nat_list_cmp_total}
use Rattle.std.specs.List.{AllByRecursion}
use Rattle.std.specs.List.Sorted.{IsStrictlySortedBy}
use Rattle.std.specs.Map.{keys_of, lookup}
use Rattle.std.specs.Ordering.{match_ordering}
use Rattle.schema_types.specs.gql_plain.Order.{AreInOrder}
use Rattle.schema_types.specs.gql_plain.Shown.{tree_of, shown_members}
use Rattle.schema_types.specs.gql_plain.Tree.{Tree}
use Rattle.schema_types.specs.gql_plain.declared.plain.Plain.{Plain}
use Rattle.schema_types.specs.Environments.{Values, with_pair, with_new_pair}
use Rattle.constant_values.specs.Listed.{first_of_each, last_of_each}

abbrev order : List ℕ → List ℕ → Ordering
order = slice_cmp nat_cmp

abbrev pub Entries : Type 0
Entries = List (List ℕ × Plain)

same_text : (a b : List ℕ) → order a b ≡ Equal → a ≡ b
same_text a b e = (bytes_eq-Decides a b).0 (sym (is_eq-slice_cmp a b) ∙ ap is_eq e)

-- ---- one more pair

pub shown-insert_entry : (es : Entries) (k : List ℕ) (p : Plain) → shown_members (insert_entry order es k p) ≡ with_pair k (tree_of p) (shown_members es)
shown-insert_entry [] k p = refl
shown-insert_entry (e ∷ es) k p = on (order k e.0) refl (shown-insert_entry es k p)
  where
    on : (o : Ordering) → order k e.0 ≡ o → shown_members (insert_entry order es k p) ≡ with_pair k (tree_of p) (shown_members es)
        → shown_members (match_ordering o ((k, p) ∷ e ∷ es) ((e.0, p) ∷ es) (e ∷ insert_entry order es k p))
        ≡ match_ordering o ((k, tree_of p) ∷ (e.0, tree_of e.1) ∷ shown_members es) ((k, tree_of p) ∷ shown_members es) ((e.0, tree_of e.1) ∷ with_pair k (tree_of p) (shown_members es))
    on Less here more = refl
    on Equal here more = ap (λ n. (n, tree_of p) ∷ shown_members es) (sym (same_text k e.0 here))
    on Greater here more = ap (λ ms. (e.0, tree_of e.1) ∷ ms) more

-- a key that is not there
pub shown-insert_new : (es : Entries) (k : List ℕ) (p : Plain) → is_some (lookup (is_at (order k)) es) ≡ false
    → shown_members (insert_entry order es k p) ≡ with_new_pair k (tree_of p) (shown_members es)
shown-insert_new [] k p none = refl
shown-insert_new (e ∷ es) k p none = on (order k e.0) (shown-insert_new es k p) none
  where
    on : (o : Ordering) → (is_some (lookup (is_at (order k)) es) ≡ false → shown_members (insert_entry order es k p) ≡ with_new_pair k (tree_of p) (shown_members es))
        → is_some (cond (is_eq o) (Some e.1) (lookup (is_at (order k)) es)) ≡ false
        → shown_members (match_ordering o ((k, p) ∷ e ∷ es) ((e.0, p) ∷ es) (e ∷ insert_entry order es k p))
        ≡ match_ordering o ((k, tree_of p) ∷ (e.0, tree_of e.1) ∷ shown_members es) ((e.0, tree_of e.1) ∷ shown_members es) ((e.0, tree_of e.1) ∷ with_new_pair k (tree_of p) (shown_members es))
    on Less more none = refl
    on Equal more none = absurd (true≢false none)
    on Greater more none = ap (λ ms. (e.0, tree_of e.1) ∷ ms) (more none)

below_all : (k first : List ℕ) (es : Entries) → order k first ≡ Less → AllByRecursion (λ later. order first later ≡ Less) (keys_of es) → is_some (lookup (is_at (order k)) es) ≡ true → ⊥
below_all k first [] below all there = true≢false (sym there)
below_all k first (e ∷ es) below all there =
    let less : order k e.0 ≡ Less = nat_list_cmp_total.trans k first e.0 below all.0 in
    below_all k first es below all.1 (subst (λ o. is_some (cond (is_eq o) (Some e.1) (lookup (is_at (order k)) es)) ≡ true) less there)

-- a key that is there
pub with_new_pair-there : (es : Entries) (k : List ℕ) (t : Tree) → AreInOrder (keys_of es) → is_some (lookup (is_at (order k)) es) ≡ true
    → shown_members es ≡ with_new_pair k t (shown_members es)
unfolding IsStrictlySortedBy
with_new_pair-there [] k t sorted there = absurd (true≢false (sym there))
with_new_pair-there (e ∷ es) k t sorted there = on (order k e.0) refl (with_new_pair-there es k t sorted.1) there
  where
    on : (o : Ordering) → order k e.0 ≡ o → (is_some (lookup (is_at (order k)) es) ≡ true → shown_members es ≡ with_new_pair k t (shown_members es))
        → is_some (cond (is_eq o) (Some e.1) (lookup (is_at (order k)) es)) ≡ true
        → (e.0, tree_of e.1) ∷ shown_members es
        ≡ match_ordering o ((k, t) ∷ (e.0, tree_of e.1) ∷ shown_members es) ((e.0, tree_of e.1) ∷ shown_members es) ((e.0, tree_of e.1) ∷ with_new_pair k t (shown_members es))
    on Less here more there = absurd (below_all k e.0 es here sorted.0 there)
    on Equal here more there = refl
    on Greater here more there = ap (λ ms. (e.0, tree_of e.1) ∷ ms) (more there)

-- ---- the pairs of a list, the last one first

module _ (put : List ℕ → Tree → Values → Values) where
  abbrev pub put_all : List (List ℕ × Tree) → Values → Values
  put_all [] done = done
  put_all (p ∷ ps) done = put p.0 p.1 (put_all ps done)

  put_all-push : (ps : List (List ℕ × Tree)) (p : List ℕ × Tree) (done : Values) → put_all (ps ++ p ∷ []) done ≡ put_all ps (put p.0 p.1 done)
  put_all-push [] p done = refl
  put_all-push (first ∷ ps) p done = ap (put first.0 first.1) (put_all-push ps p done)

  -- the next pair that is taken off the end
  pub put_all-step : (before rest : Entries) (k : List ℕ) (p : Plain) (done : Values) → before ≡ rest ++ (k, p) ∷ []
      → put_all (shown_members rest) (put k (tree_of p) done) ≡ put_all (shown_members before) done
  put_all-step before rest k p done is =
      sym (put_all-push (shown_members rest) (k, tree_of p) done)
      ∙ ap (λ ps. put_all ps done) (sym (map-append (λ e. (e.0, tree_of e.1)) rest ((k, p) ∷ [])))
      ∙ ap (λ es. put_all (shown_members es) done) (sym is)

pub put_all-first : (ps : List (List ℕ × Tree)) → put_all with_pair ps [] ≡ first_of_each ps
put_all-first [] = refl
put_all-first (p ∷ ps) = ap (with_pair p.0 p.1) (put_all-first ps)

pub put_all-last : (ps : List (List ℕ × Tree)) → put_all with_new_pair ps [] ≡ last_of_each ps
put_all-last [] = refl
put_all-last (p ∷ ps) = ap (with_new_pair p.0 p.1) (put_all-last ps)
