-- Single steps in order of their keys are in order where the plan has an order that they were taken from.
use denote.Ref.{Bor}
use Rattle.std.proofs.Common.{◌≡◌, ◌↔◌, ◌⊎◌, inl, inr, Bool, true, false, true≢false, ◌&&◌, ◌||◌, codes, List, [], ◌∷◌, map, length, nat_cmp, refl, sym, ap, subst, ◌∙◌, arith}
use Rattle.std.proofs.lemmas.List.Folds.{list_all-map}
use Rattle.std.specs.Cmp.Lexicographic.{slice_cmp}
use Rattle.std.specs.List.{AllByRecursion, list_all}
use Rattle.std.specs.List.Sorted.{IsPermutation, IsSortedByKey}
use Rattle.std.specs.Ordering.{is_lt}
use Rattle.plan_ir.proofs.gql_plain_laws.Booleans.{both_ways, or_true}
use Rattle.plan_ir.specs.Reader.{Reader}
use Rattle.plan_ir.specs.gql_plain.Order.{AreInOrder}
use Rattle.plan_order.proofs.DistinctTexts.{both, differ_so, distinct_shuffled, distinct_so, list_all_shuffled, none_shuffled}
use Rattle.plan_order.proofs.NotedSteps.{less_when}
use Rattle.plan_order.proofs.RisingSingles.{DoNotFall, fragments_rise, keys_rise, responses_rise, rising_so}
use Rattle.plan_order.proofs.Shuffles.{Shuffle, all-shuffled, differ-rising, shuffle-map, shuffle-of}
use Rattle.plan_order.proofs.StepKeys.{fragments_shuffled, responses_shuffled}
use Rattle.plan_order.specs.HasOrder.{distinct, has_order, has_order_below, has_single_guards, is_orderable, keys_have_order, stands_apart}
use Rattle.plan_order.specs.Ordered.{IsApart, IsInOrder}
use Rattle.plan_order.specs.Responses.{fragments, responses}
use Rattle.plan_order.specs.Singles.{AreSingles, IsKeyed, key_in, step_in, steps_in}
use Rattle.plan_order.specs.Walk.{is_none}
use Rattle.plan_order.specs.declared.single.Single.{Single}
use Rattle.plan_ir.specs.store_record.Keys.{Text}

-- ---- response keys apart

one_of_two : (a b : Bool) → (a || b) ≡ true → (a ≡ true) ⊎ (b ≡ true)
one_of_two true b e = inl refl
one_of_two false b e = inr e

pub apart_so : (key : Text) → stands_apart key ≡ true → IsApart key
apart_so key e = on (one_of_two (is_lt (slice_cmp nat_cmp key (codes "__fragments"))) (is_lt (slice_cmp nat_cmp (codes "__owner") key)) e)
  where
    on : (is_lt (slice_cmp nat_cmp key (codes "__fragments")) ≡ true) ⊎ (is_lt (slice_cmp nat_cmp (codes "__owner") key) ≡ true) → IsApart key
    on (inl below) = inl (less_when (slice_cmp nat_cmp key (codes "__fragments")) below)
    on (inr higher) = inr (less_when (slice_cmp nat_cmp (codes "__owner") key) higher)

pub so_apart : (key : Text) → IsApart key → stands_apart key ≡ true
so_apart key (inl below) = ap (λ o. is_lt o || is_lt (slice_cmp nat_cmp (codes "__owner") key)) below
so_apart key (inr higher) =
    ap (λ o. is_lt (slice_cmp nat_cmp key (codes "__fragments")) || is_lt o) higher
    ∙ or_true (is_lt (slice_cmp nat_cmp key (codes "__fragments")))

pub all_apart : (keys : List Text) → list_all stands_apart keys ≡ true → AllByRecursion IsApart keys
all_apart [] e = tt
all_apart (key ∷ keys) e = let parts = both (stands_apart key) (list_all stands_apart keys) e in (apart_so key parts.0, all_apart keys parts.1)

pub apart_all : (keys : List Text) → AllByRecursion IsApart keys → list_all stands_apart keys ≡ true
apart_all [] all = refl
apart_all (key ∷ keys) all = λ i. so_apart key all.0 i && apart_all keys all.1 i

nothing_there : (texts : List Text) → is_none texts ≡ true → texts ≡ []
nothing_there [] e = refl
nothing_there (text ∷ texts) e = absurd (true≢false (sym e))

and_false : (b : Bool) → (b && false) ≡ false
and_false true = refl
and_false false = refl

-- ---- the steps of one object

apart_here : (steps : Reader) → (is_none (fragments steps) || list_all stands_apart (responses steps)) ≡ true → (fragments steps ≡ []) ⊎ AllByRecursion IsApart (responses steps)
apart_here steps e = on (one_of_two (is_none (fragments steps)) (list_all stands_apart (responses steps)) e)
  where
    on : (is_none (fragments steps) ≡ true) ⊎ (list_all stands_apart (responses steps) ≡ true) → (fragments steps ≡ []) ⊎ AllByRecursion IsApart (responses steps)
    on (inl none) = inl (nothing_there (fragments steps) none)
    on (inr all) = inr (all_apart (responses steps) all)

-- where there is no pointer, and where there is one
pub apart_free : (xs ys : List (Bor Text)) → length xs ≡ 0 → true ≡ (is_none (map (λ t. t.now) xs) || list_all stands_apart (map (λ t. t.now) ys))
apart_free [] ys e = refl
apart_free (x ∷ xs) ys e = absurd (omega arith)

pub apart_each : (xs ys : List (Bor Text)) (answer : Bool) → (length xs ≡ 0 → ⊥) → answer ≡ list_all (λ t. stands_apart t.now) ys
    → answer ≡ (is_none (map (λ t. t.now) xs) || list_all stands_apart (map (λ t. t.now) ys))
apart_each [] ys answer some e = absurd (some refl)
apart_each (x ∷ xs) ys answer some e = e ∙ sym (list_all-map stands_apart (λ (t : Bor Text). t.now) ys)

in_order_so : (steps : Reader) → DoNotFall (responses steps) → DoNotFall (fragments steps) → keys_have_order steps ≡ true → IsInOrder steps
in_order_so steps keys spread e =
    let parts = both (distinct (responses steps) && distinct (fragments steps)) (is_none (fragments steps) || list_all stands_apart (responses steps)) e in
    let once = both (distinct (responses steps)) (distinct (fragments steps)) parts.0 in
    record {
      fields = rising_so (responses steps) keys (differ_so (responses steps) once.0);
      pointers = rising_so (fragments steps) spread (differ_so (fragments steps) once.1);
      apart = apart_here steps parts.1;
    }

order_moved : (one other : Reader) → Shuffle (responses one) (responses other) → Shuffle (fragments one) (fragments other) → keys_have_order one ≡ keys_have_order other
order_moved one other keys spread =
    λ i. (distinct_shuffled (responses one) (responses other) keys i && distinct_shuffled (fragments one) (fragments other) spread i)
    && (none_shuffled spread i || list_all_shuffled stands_apart keys i)

-- ---- texts in another order

-- texts that were put in order rise just where none stands twice
pub rise_distinct : (xs ys : List (Bor Text)) (answer : Bool) → IsPermutation xs ys → IsSortedByKey (λ (t : Bor Text). t.now) (slice_cmp nat_cmp) ys
    → ((answer ≡ true) ↔ AreInOrder (map (λ t. t.now) ys)) → answer ≡ distinct (map (λ t. t.now) xs)
rise_distinct xs ys answer moved sorted rises =
    let texts : List Text = map (λ t. t.now) ys in
    both_ways answer (distinct texts)
    (λ e. distinct_so texts (differ-rising texts (rises.0 e)))
    (λ e. rises.1 (rising_so texts (keys_rise (λ (t : Bor Text). t.now) ys sorted) (differ_so texts e)))
    ∙ sym (distinct_shuffled (map (λ t. t.now) xs) texts (shuffle-map (λ (t : Bor Text). t.now) (shuffle-of xs ys moved)))

-- ---- a plan and its single steps in order

pub order_made : (plan copy : Reader) (xs ys : List Single) → AreSingles plan xs → IsPermutation xs ys → IsSortedByKey key_in (slice_cmp nat_cmp) ys → copy ≡ steps_in ys
    → has_order plan ≡ true → IsInOrder copy
order_made plan copy xs ys are moved sorted is order =
    let steps = shuffle-map step_in (shuffle-of xs ys moved) in
    let keyed : AllByRecursion IsKeyed ys = all-shuffled IsKeyed (shuffle-of xs ys moved) are.keyed in
    let same : keys_have_order plan ≡ keys_have_order (steps_in ys) =
    order_moved plan (steps_in ys)
    (subst (λ ks. Shuffle ks (responses (steps_in ys))) are.told (responses_shuffled (map step_in xs) (map step_in ys) steps))
    (subst (λ fs. Shuffle fs (fragments (steps_in ys))) are.spread (fragments_shuffled (map step_in xs) (map step_in ys) steps)) in
    let keys : keys_have_order (steps_in ys) ≡ true = sym same ∙ (both (has_single_guards plan) (keys_have_order plan) order).1 in
    subst IsInOrder (sym is) (in_order_so (steps_in ys) (responses_rise ys keyed sorted) (fragments_rise ys keyed sorted) keys)

-- where the steps have no order, or what stands below them has none, the plan has none
pub order_lost : (plan : Reader) → has_order plan ≡ false → false ≡ is_orderable plan
order_lost plan e = sym (ap (λ b. has_order_below plan && b) e ∙ and_false (has_order_below plan))

pub order_kept : (plan : Reader) → has_order_below plan ≡ true → has_order plan ≡ true → true ≡ is_orderable plan
order_kept plan below here = λ i. sym below i && sym here i
