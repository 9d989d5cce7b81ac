-- Single steps in order of their keys: their response keys do not fall, nor do their fragments, and they rise where they differ.
use Rattle.std.proofs.Common.{◌≡◌, ℕ, suc, ◌+◌, ◌<◌, false, true≢false, Bool, List, [], ◌∷◌, ◌++◌, map, length, get_or, Ordering, Less, Equal, Greater, nat_cmp, refl, sym, ap, subst, ◌∙◌, arith}
use Rattle.std.proofs.lemmas.Cmp.{nat_list_cmp_total}
use Rattle.std.proofs.lemmas.List.Sorted.{ranks_by, sorted_far}
use Rattle.std.proofs.lemmas.Map.Text.{is_eq-slice_cmp}
use Rattle.std.specs.Cmp.Lexicographic.{slice_cmp}
use Rattle.std.specs.List.{AllByRecursion}
use Rattle.std.specs.List.Sorted.{IsSortedByKey, IsStrictlySortedBy}
use Rattle.std.specs.Ordering.{is_eq, is_lt, ordering_reverse}
use Rattle.plan_ir.specs.gql_plain.Order.{AreInOrder}
use Rattle.plan_ir.specs.ReaderView.{step_of}
use Rattle.plan_order.proofs.Rising.{IsBelow, Within, none, left_out, kept, all-within, within-append, within-nothing}
use Rattle.plan_order.proofs.Shuffles.{Differ, DoDiffer}
use Rattle.plan_order.proofs.StepKeys.{fragments_step, responses_step}
use Rattle.plan_order.specs.Responses.{fragments, responses}
use Rattle.plan_order.specs.Singles.{IsKeyed, key_in, steps_in}
use Rattle.plan_order.specs.declared.single.Single.{Single}
use Rattle.plan_ir.specs.store_record.Keys.{Text}

-- the later text is not below the other one
abbrev pub IsNoFall : Text → Text → Type 0
IsNoFall text later = is_lt (slice_cmp nat_cmp later text) ≡ false

-- no text is below one before it
abbrev pub DoNotFall : List Text → Type 0
DoNotFall [] = Unit {0}
DoNotFall (text ∷ texts) = AllByRecursion (IsNoFall text) texts × DoNotFall texts

no_fall-within : {xs ys : List Text} → Within xs ys → DoNotFall ys → DoNotFall xs
no_fall-within none up = tt
no_fall-within (left_out w) up = no_fall-within w up.1
no_fall-within (kept w) up = (all-within _ w up.0, no_fall-within w up.1)

less_left : (o : Ordering) → is_lt (ordering_reverse o) ≡ false → is_eq o ≡ false → o ≡ Less
less_left Less a b = refl
less_left Equal a b = absurd (true≢false b)
less_left Greater a b = absurd (true≢false a)

below_so : (text later : Text) → IsNoFall text later → Differ text later → IsBelow text later
below_so text later up other =
    less_left (slice_cmp nat_cmp text later)
    (ap is_lt (sym (nat_list_cmp_total.antisymm later text)) ∙ up)
    (is_eq-slice_cmp text later ∙ other)

all_below : (text : Text) (texts : List Text) → AllByRecursion (IsNoFall text) texts → AllByRecursion (Differ text) texts → AllByRecursion (IsBelow text) texts
all_below text [] up other = tt
all_below text (later ∷ texts) up other = (below_so text later up.0 other.0, all_below text texts up.1 other.1)

pub rising_so : (texts : List Text) → DoNotFall texts → DoDiffer texts → AreInOrder texts
unfolding IsStrictlySortedBy
rising_so [] up other = tt
rising_so (text ∷ texts) up other = (all_below text texts up.0 other.0, rising_so texts up.1 other.1)

-- ---- what was put in order by a key

module _ {X : Type 0} (key : X → Text) where
  abbrev under : X → X → Bool
  under x y = is_lt (slice_cmp nat_cmp (key x) (key y))

  each_later : (z : X) (zs : List X) → ((j : ℕ) (d : X) → j < length zs → under (get_or zs j d) z ≡ false) → AllByRecursion (IsNoFall (key z)) (map key zs)
  each_later z [] f = tt
  each_later z (x ∷ xs) f = (f 0 x (omega arith), each_later z xs (λ j d lt. f (suc j) d (omega arith)))

  pub keys_rise : (zs : List X) → IsSortedByKey key (slice_cmp nat_cmp) zs → DoNotFall (map key zs)
  keys_rise [] sorted = tt
  keys_rise (z ∷ zs) sorted = (
    each_later z zs (λ j d lt. sorted_far under (ranks_by nat_list_cmp_total key) (z ∷ zs) sorted 0 (suc j) d (omega arith) (omega arith)),
    keys_rise zs (λ k d low lt.
        let e : suc k + 1 ≡ suc (k + 1) = omega arith in
        subst (λ m. under (get_or (z ∷ zs) m d) (get_or zs k d) ≡ false) e (sorted (suc k) d (omega arith) (omega arith))),
  )

-- ---- what single steps say stands among their keys

within_front : (xs ys : List Text) → Within xs (xs ++ ys)
within_front [] ys = within-nothing ys
within_front (x ∷ xs) ys = kept (within_front xs ys)

within_end : (xs ys : List Text) → Within ys (xs ++ ys)
within_end [] [] = none
within_end [] (y ∷ ys) = kept (within_end [] ys)
within_end (x ∷ xs) ys = left_out (within_end xs ys)

responses_among : (zs : List Single) → AllByRecursion IsKeyed zs → Within (responses (steps_in zs)) (map key_in zs)
responses_among [] all = none
responses_among (z ∷ zs) all =
    let here : Within (responses (step_of z.step)) (key_in z ∷ []) = subst (Within (responses (step_of z.step))) all.0 (within_front (responses (step_of z.step)) (fragments (step_of z.step))) in
    subst (λ ks. Within ks (key_in z ∷ map key_in zs)) (sym (responses_step z.step (steps_in zs))) (within-append here (responses_among zs all.1))

fragments_among : (zs : List Single) → AllByRecursion IsKeyed zs → Within (fragments (steps_in zs)) (map key_in zs)
fragments_among [] all = none
fragments_among (z ∷ zs) all =
    let here : Within (fragments (step_of z.step)) (key_in z ∷ []) = subst (Within (fragments (step_of z.step))) all.0 (within_end (responses (step_of z.step)) (fragments (step_of z.step))) in
    subst (λ fs. Within fs (key_in z ∷ map key_in zs)) (sym (fragments_step z.step (steps_in zs))) (within-append here (fragments_among zs all.1))

pub responses_rise : (zs : List Single) → AllByRecursion IsKeyed zs → IsSortedByKey key_in (slice_cmp nat_cmp) zs → DoNotFall (responses (steps_in zs))
responses_rise zs all sorted = no_fall-within (responses_among zs all) (keys_rise key_in zs sorted)

pub fragments_rise : (zs : List Single) → AllByRecursion IsKeyed zs → IsSortedByKey key_in (slice_cmp nat_cmp) zs → DoNotFall (fragments (steps_in zs))
fragments_rise zs all sorted = no_fall-within (fragments_among zs all) (keys_rise key_in zs sorted)
