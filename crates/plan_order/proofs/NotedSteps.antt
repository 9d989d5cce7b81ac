-- The response keys and the fragments of steps, noted one step after another; and texts that rise.
use Rattle.std.proofs.Common.{◌≡◌, ◌↔◌, ◌+◌, ◌<◌, ℕ, Bool, true, false, true≢false, List, [], ◌∷◌, ◌++◌, length, get_or, map, append_assoc, take, Ordering, Less, Equal, Greater, nat_cmp, refl, sym, ap, ◌∙◌, arith}
use Rattle.std.proofs.lemmas.Cmp.{nat_list_cmp_total, on_total}
use Rattle.std.proofs.lemmas.List.{take_more}
use Rattle.std.proofs.lemmas.Map.Keys.{Less-from_sorted, sorted_from_all_adjacent}
use Rattle.std.specs.Cmp.Lexicographic.{slice_cmp}
use Rattle.std.specs.List.{AllByRecursion, IsAllAdjacentAnswer}
use Rattle.std.specs.List.Sorted.{IsStrictlySortedBy}
use Rattle.std.specs.Ordering.{is_lt}
use Rattle.plan_ir.specs.gql_plain.Order.{AreInOrder}
use Rattle.plan_ir.proofs.ReaderLaws.{steps_of-append}
use Rattle.plan_ir.specs.Reader as r
use Rattle.plan_ir.specs.Reader.{Reader, reader_append}
use Rattle.plan_ir.specs.ReaderView.{step_of, steps_of}
use Rattle.plan_ir.specs.declared.reader.ReaderStep.{ReaderStep}
use Rattle.plan_order.specs.Responses.{fragments, responses}
use Rattle.plan_ir.specs.schema_tables.Types.{Text}

pub responses-append : (a b : Reader) → responses (reader_append a b) ≡ responses a ++ responses b
responses-append r.done b = refl
responses-append (r.typename n rest) b = ap (λ (ks : List Text). n ∷ ks) (responses-append rest b)
responses-append (r.leaf n name xs rest) b = ap (λ (ks : List Text). n ∷ ks) (responses-append rest b)
responses-append (r.object n name xs m ts is o c child rest) b = ap (λ (ks : List Text). n ∷ ks) (responses-append rest b)
responses-append (r.guarded g child rest) b =
    ap (λ (ks : List Text). responses child ++ ks) (responses-append rest b) ∙ sym (append_assoc (responses child) (responses rest) (responses b))
responses-append (r.pointer f xs rest) b = responses-append rest b
responses-append (r.pointer_inline f xs child rest) b = responses-append rest b

pub fragments-append : (a b : Reader) → fragments (reader_append a b) ≡ fragments a ++ fragments b
fragments-append r.done b = refl
fragments-append (r.typename n rest) b = fragments-append rest b
fragments-append (r.leaf n name xs rest) b = fragments-append rest b
fragments-append (r.object n name xs m ts is o c child rest) b = fragments-append rest b
fragments-append (r.guarded g child rest) b =
    ap (λ (fs : List Text). fragments child ++ fs) (fragments-append rest b) ∙ sym (append_assoc (fragments child) (fragments rest) (fragments b))
fragments-append (r.pointer f xs rest) b = ap (λ (fs : List Text). f ∷ fs) (fragments-append rest b)
fragments-append (r.pointer_inline f xs child rest) b = ap (λ (fs : List Text). f ∷ fs) (fragments-append rest b)

-- one step more of a list
module _ (xs : List ReaderStep) (i : ℕ) (x : ReaderStep) (lt : i < length xs) (is : x ≡ get_or xs i x) where
  pub one_more : steps_of (take (i + 1) xs) ≡ reader_append (steps_of (take i xs)) (step_of x)
  one_more = ap steps_of (take_more xs i x lt ∙ ap (λ (y : ReaderStep). take i xs ++ y ∷ []) (sym is)) ∙ steps_of-append (take i xs) (x ∷ [])

  pub responses_next : (old mid new : List Text) → new ≡ mid ++ responses (step_of x) → mid ≡ old ++ responses (steps_of (take i xs)) → new ≡ old ++ responses (steps_of (take (i + 1) xs))
  responses_next old mid new second first =
      second ∙ ap (λ (ks : List Text). ks ++ responses (step_of x)) first
      ∙ append_assoc old (responses (steps_of (take i xs))) (responses (step_of x))
      ∙ ap (λ (ks : List Text). old ++ ks) (sym (ap responses one_more ∙ responses-append (steps_of (take i xs)) (step_of x)))

  pub fragments_next : (old mid new : List Text) → new ≡ mid ++ fragments (step_of x) → mid ≡ old ++ fragments (steps_of (take i xs)) → new ≡ old ++ fragments (steps_of (take (i + 1) xs))
  fragments_next old mid new second first =
      second ∙ ap (λ (fs : List Text). fs ++ fragments (step_of x)) first
      ∙ append_assoc old (fragments (steps_of (take i xs))) (fragments (step_of x))
      ∙ ap (λ (fs : List Text). old ++ fs) (sym (ap fragments one_more ∙ fragments-append (steps_of (take i xs)) (step_of x)))

-- ---- texts that were found to rise

less_where : (o : Ordering) → true ≡ is_lt o → o ≡ Less
less_where Less e = refl
less_where Equal e = absurd (true≢false e)
less_where Greater e = absurd (true≢false e)

module _ {X : Type 0} (text : X → Text) where
  abbrev by_text : X → X → Ordering
  by_text x y = slice_cmp nat_cmp (text x) (text y)

  strict_so : (xs : List X) → IsAllAdjacentAnswer (λ x y b. b ≡ is_lt (by_text x y)) xs true → IsStrictlySortedBy by_text xs
  unfolding IsStrictlySortedBy
  strict_so [] all = tt
  strict_so (x ∷ xs) all = sorted_from_all_adjacent (on_total text nat_list_cmp_total) (x ∷ xs) x (λ k lt. less_where (by_text (get_or (x ∷ xs) k x) (get_or (x ∷ xs) (k + 1) x)) (all k x lt))

  texts_below : (key : Text) (xs : List X) → AllByRecursion (λ x. slice_cmp nat_cmp key (text x) ≡ Less) xs → AllByRecursion (λ later. slice_cmp nat_cmp key later ≡ Less) (map text xs)
  texts_below key [] all = tt
  texts_below key (x ∷ xs) all = (all.0, texts_below key xs all.1)

  below_texts : (key : Text) (xs : List X) → AllByRecursion (λ later. slice_cmp nat_cmp key later ≡ Less) (map text xs) → AllByRecursion (λ x. slice_cmp nat_cmp key (text x) ≡ Less) xs
  below_texts key [] all = tt
  below_texts key (x ∷ xs) all = (all.0, below_texts key xs all.1)

  texts_strict : (xs : List X) → IsStrictlySortedBy by_text xs → AreInOrder (map text xs)
  unfolding IsStrictlySortedBy
  texts_strict [] up = tt
  texts_strict (x ∷ xs) up = (texts_below (text x) xs up.0, texts_strict xs up.1)

  strict_texts : (xs : List X) → AreInOrder (map text xs) → IsStrictlySortedBy by_text xs
  unfolding IsStrictlySortedBy
  strict_texts [] up = tt
  strict_texts (x ∷ xs) up = (below_texts (text x) xs up.0, strict_texts xs up.1)

  no_fall_found : (xs : List X) → IsAllAdjacentAnswer (λ x y b. b ≡ is_lt (by_text x y)) xs false → IsStrictlySortedBy by_text xs → ⊥
  no_fall_found [] fall up = absurd (omega (arith, fall.1))
  no_fall_found (x ∷ xs) fall up =
      let k = fall.0 in
      let below : by_text (get_or (x ∷ xs) k x) (get_or (x ∷ xs) (k + 1) x) ≡ Less = Less-from_sorted by_text (x ∷ xs) k (k + 1) x up (omega arith) fall.1 in
      true≢false (ap is_lt (sym below) ∙ sym (fall.2 x))

  pub texts_rise : (xs : List X) (found : Bool) → IsAllAdjacentAnswer (λ x y b. b ≡ is_lt (by_text x y)) xs found → (found ≡ true) ↔ AreInOrder (map text xs)
  texts_rise xs true all = (λ e. texts_strict xs (strict_so xs all), λ up. refl)
  texts_rise xs false all = (λ e. absurd (true≢false (sym e)), λ up. absurd (no_fall_found xs all (strict_texts xs up)))

pub less_when : (o : Ordering) → is_lt o ≡ true → o ≡ Less
less_when o e = less_where o (sym e)
