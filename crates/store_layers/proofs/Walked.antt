-- Two lists of ids in byte order, walked side by side.
use Rattle.std.proofs.Common.{◌≡◌, ℕ, zero, suc, ◌+◌, ◌<◌, ◌≤◌, Bool, true, false, true≢false, cond, not, ◌||◌, List, [], ◌∷◌, ◌++◌, drop, take, length, get_or, refl, sym, ap, ◌∙◌, subst, bytes_eq, nat_cmp, Ordering, Less, Equal, Greater, is_lt, is_eq}
use Rattle.std.proofs.lemmas.Cmp.{tied_itself}
use Rattle.std.proofs.lemmas.List.{drop_all, drop_more}
use Rattle.std.proofs.lemmas.List.Elements.{filter_more}
use Rattle.std.proofs.lemmas.Map.Text.{is_eq-slice_cmp}
use Rattle.std.proofs.lemmas.Slice.Eq.{bytes_eq-Decides}
use Rattle.std.specs.Cmp.Lexicographic.{slice_cmp, nat_list_cmp_total}
use Rattle.std.specs.List.{AllByRecursion, filter}
use Rattle.std.specs.List.Sorted.{IsStrictlySortedBy}
use Rattle.std.specs.Ordering.{ordering_reverse}
use Rattle.store_update.specs.gql_plain.Order.{AreInOrder, has_text}
use Rattle.store_update.specs.store_record.Keys.{Text}

abbrev order : Text → Text → Ordering
order = slice_cmp nat_cmp

same_text : (a b : Text) → bytes_eq a b ≡ true → a ≡ b
same_text a b e = (bytes_eq-Decides a b).0 e

-- what stands from a place on, by what stands there
from_here : (texts : List Text) (i : ℕ) (here : Text) → i < length texts → here ≡ get_or texts i here → drop i texts ≡ here ∷ drop (i + 1) texts
from_here texts i here within is = drop_more texts i here within ∙ ap (λ one. one ∷ drop (i + 1) texts) (sym is)

apart_below : (here q id : Text) → order here id ≡ Less → is_lt (order q id) ≡ false → (b : Bool) → bytes_eq here q ≡ b → b ≡ false
apart_below here q id less above true e =
    absurd (true≢false (ap is_lt (sym less) ∙ ap (λ t. is_lt (order t id)) (same_text here q e) ∙ above))
apart_below here q id less above false e = refl

-- a text below the id is none of those that are not below it
pub passed : (texts : List Text) (i : ℕ) (here id q : Text) → i < length texts → here ≡ get_or texts i here → order here id ≡ Less
    → is_lt (order q id) ≡ false → has_text (drop (i + 1) texts) q ≡ has_text (drop i texts) q
passed texts i here id q within is less above =
    sym (ap (λ ts. has_text ts q) (from_here texts i here within is)
    ∙ ap (λ b. b || has_text (drop (i + 1) texts) q) (apart_below here q id less above _ refl))

not_below_itself : (id : Text) → is_lt (order id id) ≡ false
not_below_itself id = ap is_lt (tied_itself nat_list_cmp_total id)

pub found_here : (texts : List Text) (i : ℕ) (here id : Text) → i < length texts → here ≡ get_or texts i here → order here id ≡ Equal
    → has_text (drop i texts) id ≡ true
found_here texts i here id within is equal =
    ap (λ ts. has_text ts id) (from_here texts i here within is)
    ∙ ap (λ b. b || has_text (drop (i + 1) texts) id) (sym (is_eq-slice_cmp here id) ∙ ap is_eq equal)

in_order_from : (texts : List Text) (i : ℕ) → AreInOrder texts → AreInOrder (drop i texts)
unfolding IsStrictlySortedBy
in_order_from [] zero sorted = tt
in_order_from [] (suc i) sorted = tt
in_order_from (x ∷ texts) zero sorted = sorted
in_order_from (x ∷ texts) (suc i) sorted = in_order_from texts i sorted.1

apart_above : (here id later : Text) → order here id ≡ Greater → order here later ≡ Less → (b : Bool) → bytes_eq later id ≡ b → b ≡ false
apart_above here id later above less true e =
    absurd (true≢false (ap is_lt (sym less) ∙ ap (λ t. is_lt (order here t)) (same_text later id e) ∙ ap is_lt above))
apart_above here id later above less false e = refl

none_above : (here id : Text) (texts : List Text) → order here id ≡ Greater → AllByRecursion (λ later. order here later ≡ Less) texts → has_text texts id ≡ false
none_above here id [] above all = refl
none_above here id (x ∷ texts) above all =
    ap (λ b. b || has_text texts id) (apart_above here id x above all.0 _ refl) ∙ none_above here id texts above all.1

none_first : (here id : Text) (texts : List Text) → order here id ≡ Greater → AreInOrder (here ∷ texts) → has_text (here ∷ texts) id ≡ false
unfolding IsStrictlySortedBy
none_first here id texts above sorted =
    ap (λ b. b || has_text texts id) (sym (is_eq-slice_cmp here id) ∙ ap is_eq above) ∙ none_above here id texts above sorted.0

-- where the texts rise, none from one above the id on is the id
pub none_here : (texts : List Text) (i : ℕ) (here id : Text) → i < length texts → here ≡ get_or texts i here → order here id ≡ Greater
    → AreInOrder texts → has_text (drop i texts) id ≡ false
none_here texts i here id within is above sorted =
    let split = from_here texts i here within is in
    ap (λ ts. has_text ts id) split ∙ none_first here id (drop (i + 1) texts) above (subst AreInOrder split (in_order_from texts i sorted))

pub none_past : (texts : List Text) (i : ℕ) (id : Text) → length texts ≤ i → has_text (drop i texts) id ≡ false
none_past texts i id past = ap (λ ts. has_text ts id) (drop_all i texts past)

-- what was looked for, from where the walk began
pub left_itself : (from at texts : List Text) (id : Text) (has : Bool)
    → ((q : Text) → is_lt (order q id) ≡ false → has_text at q ≡ has_text from q) → has_text from id ≡ has_text texts id → has_text at id ≡ has → has ≡ has_text texts id
left_itself from at texts id has left whole here = sym here ∙ left id (not_below_itself id) ∙ whole

-- ---- the walk along both

not_below : (id later : Text) → order id later ≡ Less → is_lt (order later id) ≡ false
not_below id later less = ap is_lt (nat_list_cmp_total.antisymm later id ∙ ap ordering_reverse less)

left_later : (keep from at : List Text) (id : Text) (rest : List Text) → ((q : Text) → is_lt (order q id) ≡ false → has_text at q ≡ has_text from q)
    → AllByRecursion (λ later. order id later ≡ Less) rest → AllByRecursion (λ q. has_text from q ≡ has_text keep q) rest → AllByRecursion (λ q. has_text at q ≡ has_text keep q) rest
left_later keep from at id [] left above all = tt
left_later keep from at id (q ∷ rest) left above all = (left q (not_below id q above.0) ∙ all.0, left_later keep from at id rest left above.1 all.1)

first_of : (keep from : List Text) (id : Text) (rest : List Text) → AllByRecursion (λ q. has_text from q ≡ has_text keep q) (id ∷ rest) → has_text from id ≡ has_text keep id
first_of keep from id rest all = all.0

rest_of : (keep from at : List Text) (id : Text) (rest : List Text) → ((q : Text) → is_lt (order q id) ≡ false → has_text at q ≡ has_text from q)
    → AreInOrder (id ∷ rest) → AllByRecursion (λ q. has_text from q ≡ has_text keep q) (id ∷ rest) → AllByRecursion (λ q. has_text at q ≡ has_text keep q) rest
unfolding IsStrictlySortedBy
rest_of keep from at id rest left sorted all = left_later keep from at id rest left sorted.0 all.1

pub left_first : (ids : List Text) (i : ℕ) (id : Text) (keep from : List Text) → i < length ids → id ≡ get_or ids i id
    → AllByRecursion (λ q. has_text from q ≡ has_text keep q) (drop i ids) → has_text from id ≡ has_text keep id
left_first ids i id keep from within is all =
    first_of keep from id (drop (i + 1) ids) (subst (AllByRecursion (λ q. has_text from q ≡ has_text keep q)) (from_here ids i id within is) all)

pub left_rest : (ids : List Text) (i : ℕ) (id : Text) (keep from at : List Text) → i < length ids → id ≡ get_or ids i id → AreInOrder ids
    → ((q : Text) → is_lt (order q id) ≡ false → has_text at q ≡ has_text from q)
    → AllByRecursion (λ q. has_text from q ≡ has_text keep q) (drop i ids) → AllByRecursion (λ q. has_text at q ≡ has_text keep q) (drop (i + 1) ids)
left_rest ids i id keep from at within is sorted left all =
    let split = from_here ids i id within is in
    rest_of keep from at id (drop (i + 1) ids) left (subst AreInOrder split (in_order_from ids i sorted))
    (subst (AllByRecursion (λ q. has_text from q ≡ has_text keep q)) split all)

pub all_left : (keep ids : List Text) → AllByRecursion (λ q. has_text keep q ≡ has_text keep q) ids
all_left keep [] = tt
all_left keep (id ∷ ids) = (refl, all_left keep ids)

-- of the ids that go, one more
pub noted_more : (keep : Text → Bool) (ids : List Text) (i : ℕ) (id : Text) (before after : List Text) (kept : Bool) → i < length ids → id ≡ get_or ids i id
    → kept ≡ keep id → before ≡ filter (λ one. not (keep one)) (take i ids) → after ≡ before ++ cond (not kept) (id ∷ []) []
    → after ≡ filter (λ one. not (keep one)) (take (i + 1) ids)
noted_more keep ids i id before after kept within is same noted made =
    made
    ∙ ap (λ b. before ++ cond (not b) (id ∷ []) []) same
    ∙ ap (λ ts. ts ++ cond (not (keep id)) (id ∷ []) []) noted
    ∙ ap (λ one. filter (λ one. not (keep one)) (take i ids) ++ cond (not (keep one)) (one ∷ []) []) is
    ∙ sym (filter_more (λ one. not (keep one)) ids i id within)
