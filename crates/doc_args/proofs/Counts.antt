-- The arguments that have to be given, by how many of their names are there.
use Rattle.std.proofs.Common.{◌≡◌, ℕ, suc, ◌+◌, ◌<◌, ◌==◌, Bool, true, false, not, cond, ◌&&◌, ◌||◌, List, [], ◌∷◌, map, drop, length, get_or, Some, add-one, bytes_eq, refl, ap, sym, ◌∙◌, arith}
use Rattle.std.proofs.Math.Seq.{drop-cons}
use Rattle.std.proofs.lemmas.Slice.Eq.{bytes_eq-Decides}
use Rattle.std.specs.List.{list_any}
use Rattle.gql_graph.specs.Rules.{each}
use Rattle.gql_graph.specs.Texts.{Text}
use Rattle.gql_graph.proofs.gql_plain_laws.Booleans.{and_false, or_false, or_rotate}
use Rattle.gql_graph.proofs.gql_plain_laws.SortedTexts.{AreInOrder-sorted_texts, has_text-sorted_texts}
use Rattle.gql_graph.specs.gql_plain.Order.{has_text, sorted_texts}
use Rattle.doc_uses.specs.schema_rules.Rules.{names_of}
use Rattle.doc_uses.proofs.schema_tables_laws.Counting.{count_gives, differ_sorted, eq_swap, gives_by, is_not, and_left, and_right}
use Rattle.doc_uses.specs.schema_tables.Views.{InputDef}
use Rattle.doc_uses.specs.schema_tables.Inputs.{input_among, must_be_given}
use Rattle.doc_uses.specs.schema_tables.Required.{all_differ, count_among, one_if, required_name, required_names}
use Rattle.doc_uses.specs.schema_trees.LocatedView.{name_of}
use Rattle.doc_uses.specs.schema_trees.declared.located.NameAt.{NameAt}
use Rattle.doc_uses.specs.schema_types.ArgumentRules.{input_def_named, is_given, leaves_out}
use Rattle.doc_uses.specs.schema_types.Sites.{ArgumentAt}
use Rattle.doc_args.proofs.Steps.{given_is}
use Rattle.doc_args.specs.GivenNames.{count_new, given_names}

pub named_among : (is : List InputDef) (n : Text) → input_among is n ≡ input_def_named is n
named_among [] n = refl
named_among (i ∷ is) n = ap (cond (bytes_eq i.name n) (Some i)) (named_among is n)

-- ---- names that stand twice count once

-- the names that are seen in the end
abbrev onto : List Text → (seen : List Text) → List Text
onto [] seen = seen
onto (n ∷ ns) seen = onto ns (n ∷ seen)

has_onto : (ns seen : List Text) (n : Text) → has_text (onto ns seen) n ≡ (has_text ns n || has_text seen n)
has_onto [] seen n = refl
has_onto (m ∷ ns) seen n = has_onto ns (m ∷ seen) n ∙ sym (or_rotate (has_text ns n) (bytes_eq m n) (has_text seen n))

adds : (a s t h : Bool) (x : ℕ) → (a ≡ true → s ≡ t) → (a ≡ true → h ≡ false) → (one_if (a || s) + (x + one_if (not t && h))) ≡ ((one_if s + x) + one_if (not t && (a || h)))
adds true s true h x f g =
    let p : one_if s ≡ 1 = ap one_if (f refl) in
    omega (arith, p)
adds true s false h x f g =
    let p : one_if s ≡ 0 = ap one_if (f refl) in
    let q : one_if h ≡ 0 = ap one_if (g refl) in
    omega (arith, p, q)
adds false s t h x f g = omega arith

one_more : (n : Text) (seen rs : List Text) → all_differ rs ≡ true → count_among (n ∷ seen) rs ≡ (count_among seen rs + one_if (not (has_text seen n) && has_text rs n))
one_more n seen [] d = sym (ap (λ b. 0 + one_if b) (and_false (not (has_text seen n))))
one_more n seen (r ∷ rs) d =
    let none : has_text rs r ≡ false = is_not (has_text rs r) (and_left (not (has_text rs r)) (all_differ rs) d) in
    ap (λ k. one_if (bytes_eq n r || has_text seen r) + k) (one_more n seen rs (and_right (not (has_text rs r)) (all_differ rs) d))
    ∙ adds (bytes_eq n r) (has_text seen r) (has_text seen n) (has_text rs n) (count_among seen rs)
    (λ e. ap (has_text seen) (sym ((bytes_eq-Decides n r).0 e))) (λ e. ap (has_text rs) ((bytes_eq-Decides n r).0 e) ∙ none)
    ∙ ap (λ b. (one_if (has_text seen r) + count_among seen rs) + one_if (not (has_text seen n) && (b || has_text rs n))) (eq_swap n r)

counts_new : (rs seen ns : List Text) → all_differ rs ≡ true → (count_among seen rs + count_new rs seen ns) ≡ count_among (onto ns seen) rs
counts_new rs seen [] d = omega arith
counts_new rs seen (n ∷ ns) d =
    let one : count_among (n ∷ seen) rs ≡ (count_among seen rs + one_if (not (has_text seen n) && has_text rs n)) = one_more n seen rs d in
    let rest : (count_among (n ∷ seen) rs + count_new rs (n ∷ seen) ns) ≡ count_among (onto ns (n ∷ seen)) rs = counts_new rs (n ∷ seen) ns d in
    omega (arith, one, rest)

count_nothing : (rs : List Text) → count_among [] rs ≡ 0
count_nothing [] = refl
count_nothing (r ∷ rs) = ap (λ n. 0 + n) (count_nothing rs)

count_same : (xs ys rs : List Text) → ((n : Text) → has_text xs n ≡ has_text ys n) → count_among xs rs ≡ count_among ys rs
count_same xs ys [] same = refl
count_same xs ys (r ∷ rs) same = λ k. one_if (same r k) + count_same xs ys rs same k

-- of two lists of names that differ as many of the one are in the other as the other way round
both_counts : (rs ds : List Text) → all_differ rs ≡ true → all_differ ds ≡ true → count_among ds rs ≡ count_among rs ds
both_counts rs [] d e = count_nothing rs
both_counts rs (t ∷ ds) d e =
    let new : has_text ds t ≡ false = is_not (has_text ds t) (and_left (not (has_text ds t)) (all_differ ds) e) in
    let one : count_among (t ∷ ds) rs ≡ (count_among ds rs + one_if (not (has_text ds t) && has_text rs t)) = one_more t ds rs d in
    let put : one_if (not (has_text ds t) && has_text rs t) ≡ one_if (has_text rs t) = ap (λ b. one_if (not b && has_text rs t)) new in
    let rest : count_among ds rs ≡ count_among rs ds = both_counts rs ds d (and_right (not (has_text ds t)) (all_differ ds) e) in
    omega (arith, one, put, rest)

new_gives : (has : Text → Bool) (is : List InputDef) (ns : List Text) → ((n : Text) → has_text ns n ≡ has n)
    → (count_new (required_names is) [] ns == length (required_names is)) ≡ gives_by has is
new_gives has is ns same =
    let rs : List Text = required_names is in
    let ds : List Text = sorted_texts ns in
    let rs_differ : all_differ rs ≡ true = differ_sorted rs (AreInOrder-sorted_texts (each required_name is)) in
    let ds_differ : all_differ ds ≡ true = differ_sorted ds (AreInOrder-sorted_texts ns) in
    let new : (count_among [] rs + count_new rs [] ns) ≡ count_among (onto ns []) rs = counts_new rs [] ns rs_differ in
    let seen : count_new rs [] ns ≡ count_among (onto ns []) rs = omega (arith, new, count_nothing rs) in
    ap (λ k. k == length rs)
    (seen ∙ count_same (onto ns []) ds rs (λ n. has_onto ns [] n ∙ or_false (has_text ns n) ∙ sym (has_text-sorted_texts ns n)) ∙ both_counts rs ds rs_differ ds_differ)
    ∙ count_gives has is ds ds_differ (λ n. sym (same n) ∙ sym (has_text-sorted_texts ns n))

-- ---- what is left out

either_way : (m h g r : Bool) → not g ≡ r → not ((not m || h) && g) ≡ ((m && not h) || r)
either_way true true g r e = e
either_way true false g r e = refl
either_way false h g r e = e

any_left_out : (xs : List ArgumentAt) (is : List InputDef) → not (gives_by (is_given xs) is) ≡ list_any (leaves_out xs) is
any_left_out xs [] = refl
any_left_out xs (i ∷ is) = either_way (must_be_given i) (is_given xs i.name) (gives_by (is_given xs) is) (list_any (leaves_out xs) is) (any_left_out xs is)

pub some_left_out : (xs : List ArgumentAt) (is : List InputDef) (a b : ℕ) → a ≡ count_new (required_names is) [] (names_of (given_names xs)) → b ≡ length (required_names is)
    → not (a == b) ≡ list_any (leaves_out xs) is
some_left_out xs is a b count all = ap not ((λ k. count k == all k) ∙ new_gives (is_given xs) is (names_of (given_names xs)) (given_is xs)) ∙ any_left_out xs is

-- ---- one more name

pub count_next : (rs before : List Text) (xs : List NameAt) (i : ℕ) (x : NameAt) (old new whole : ℕ) → i < length xs → x ≡ get_or xs i x
    → new ≡ old + one_if (not (has_text before x.name.now) && has_text rs x.name.now)
    → (old + count_new rs before (names_of (map name_of (drop i xs)))) ≡ whole → (new + count_new rs (x.name.now ∷ before) (names_of (map name_of (drop (i + 1) xs)))) ≡ whole
count_next rs before xs i x old new whole low is put e =
    let next : drop i xs ≡ x ∷ drop (i + 1) xs = drop-cons xs i x low ∙ ap (λ y. y ∷ drop (suc i) xs) (sym is) ∙ ap (λ k. x ∷ drop k xs) (sym (add-one i)) in
    let left : count_new rs before (names_of (map name_of (drop i xs)))
    ≡ (one_if (not (has_text before x.name.now) && has_text rs x.name.now) + count_new rs (x.name.now ∷ before) (names_of (map name_of (drop (i + 1) xs))))
    = ap (λ ys. count_new rs before (names_of (map name_of ys))) next in
    omega (arith, put, e, left)

-- what is counted of a name, by whether it is counted
pub one_put : (b d : Bool) (old new : ℕ) → b ≡ true → b ≡ d → new ≡ old + 1 → new ≡ old + one_if d
one_put b d old new holds is put =
    let one : one_if d ≡ 1 = ap one_if (sym is ∙ holds) in
    omega (arith, put, one)

pub none_put : (b d : Bool) (old new : ℕ) → b ≡ false → b ≡ d → new ≡ old → new ≡ old + one_if d
none_put b d old new fails is put =
    let none : one_if d ≡ 0 = ap one_if (sym is ∙ fails) in
    omega (arith, put, none)
