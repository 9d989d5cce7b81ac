-- Lists that are walked over, forth and back.
use Rattle.std.proofs.Common.{◌≡◌, ℕ, zero, suc, ◌+◌, ◌-◌, ◌<◌, ◌≤◌, Bool, true, false, true≢false, not, ◌&&◌, List, [], ◌∷◌, length, drop, get_or, map, nat_cmp, nat_eq, nat_le, le-leb, refl, sym, ap, subst, ◌∙◌, arith}
use denote.Ref.{Bor}
use Rattle.std.proofs.lemmas.List.{length-map}
use Rattle.std.proofs.lemmas.List.Folds.{list_all-map}
use Rattle.std.specs.Cmp.Lexicographic.{slice_cmp}
use Rattle.std.specs.List.{list_all, list_any}
use Rattle.std.specs.Ordering.{is_lt}
use Rattle.gql_plain.proofs.Booleans.{and_false}
use Rattle.image_text.proofs.RowLaws.{none_left, one_left}
use Rattle.image_text.specs.Images.{are_apart, are_distinct, are_names, rise}
use Rattle.store_model.specs.Events.{is_short}
use Rattle.gql_plain.specs.Order.{has_text}

abbrev Text : Type 0
Text = List ℕ

-- ---- texts that rise

-- whether two neighbours rise
abbrev rises : Text → Text → Bool
rises t u = is_lt (slice_cmp nat_cmp t u)

and_true : (b : Bool) → true ≡ b → (c : Bool) → (b && c) ≡ c
and_true true e c = refl
and_true false e c = absurd (true≢false e)

-- from one place on they rise just where they do from the next one on, if the two there rise
rise_next : {X : Type 0} (key : X → Text) (xs : List X) (at : ℕ) (x y : X) → suc at < length xs → true ≡ rises (key (get_or xs at x)) (key (get_or xs (suc at) y))
    → rise (map key (drop at xs)) ≡ rise (map key (drop (suc at) xs))
rise_next key [] at x y lt e = absurd (omega arith)
rise_next key (a ∷ []) at x y lt e = absurd (omega arith)
rise_next key (a ∷ b ∷ xs) zero x y lt e = and_true (rises (key a) (key b)) e (rise (map key (b ∷ xs)))
rise_next key (a ∷ b ∷ xs) (suc at) x y lt e = rise_next key (b ∷ xs) at x y (omega arith) e

-- if the two at a place do not, they do not rise
rise_broken : {X : Type 0} (key : X → Text) (xs : List X) (at : ℕ) (x y : X) → suc at < length xs → false ≡ rises (key (get_or xs at x)) (key (get_or xs (suc at) y))
    → rise (map key (drop at xs)) ≡ false
rise_broken key [] at x y lt e = absurd (omega arith)
rise_broken key (a ∷ []) at x y lt e = absurd (omega arith)
rise_broken key (a ∷ b ∷ xs) zero x y lt e = ap (λ r. r && rise (map key (b ∷ xs))) (sym e)
rise_broken key (a ∷ b ∷ xs) (suc at) x y lt e = rise_broken key (b ∷ xs) at x y (omega arith) e

-- the same, from the place of the second one
pub rise_further : {X : Type 0} (key : X → Text) (xs : List X) (at : ℕ) (x y : X) → 1 ≤ at → at < length xs → true ≡ rises (key (get_or xs (at - 1) x)) (key (get_or xs at y))
    → rise (map key (drop (at - 1) xs)) ≡ rise (map key (drop (at + 1 - 1) xs))
rise_further key xs at x y some lt e =
    let back : at ≡ suc (at - 1) = omega arith in
    let here : suc (at - 1) ≡ at + 1 - 1 = omega arith in
    rise_next key xs (at - 1) x y (omega arith) (subst (λ k. true ≡ rises (key (get_or xs (at - 1) x)) (key (get_or xs k y))) back e)
    ∙ ap (λ k. rise (map key (drop k xs))) here

pub rise_ended : {X : Type 0} (key : X → Text) (xs : List X) (at : ℕ) (x y : X) → 1 ≤ at → at < length xs → false ≡ rises (key (get_or xs (at - 1) x)) (key (get_or xs at y))
    → rise (map key (drop (at - 1) xs)) ≡ false
rise_ended key xs at x y some lt e =
    let back : at ≡ suc (at - 1) = omega arith in
    rise_broken key xs (at - 1) x y (omega arith) (subst (λ k. false ≡ rises (key (get_or xs (at - 1) x)) (key (get_or xs k y))) back e)

-- one text alone rises
pub rise_last : {X : Type 0} (key : X → Text) (xs : List X) (at : ℕ) → length xs ≤ at + 1 → rise (map key (drop at xs)) ≡ true
rise_last key [] zero h = refl
rise_last key [] (suc at) h = refl
rise_last key (x ∷ []) zero h = refl
rise_last key (x ∷ y ∷ xs) zero h = absurd (omega arith)
rise_last key (x ∷ xs) (suc at) h = rise_last key xs at (omega arith)

-- ---- what stands twice, looked for from the end

-- what does not stand apart from a place on does not
pub apart_before : {X : Type 0} (key : X → Text) (xs : List X) (at : ℕ) → are_apart (map key (drop at xs)) ≡ false → are_apart (map key xs) ≡ false
apart_before key xs zero e = e
apart_before key [] (suc at) e = e
apart_before key (x ∷ xs) (suc at) e = ap (λ b. not (has_text (map key xs) (key x)) && b) (apart_before key xs at e) ∙ and_false (not (has_text (map key xs) (key x)))

pub drop_end : {X : Type 0} (xs : List X) → drop (length xs) xs ≡ []
drop_end xs = none_left xs (length xs) (omega arith)

same_read : {X : Type 0} (xs : List X) (at : ℕ) (d : X) → at < length xs → get_or xs at d ≡ get_or xs at (get_or xs at d)
same_read [] at d lt = absurd (omega arith)
same_read (x ∷ xs) zero d lt = refl
same_read (x ∷ xs) (suc at) d lt = same_read xs at d (omega arith)

-- the place before, where there is one
pub one_back : {X : Type 0} (xs : List X) (at : ℕ) (d : X) → 0 < at → at ≤ length xs → drop (at - 1) xs ≡ get_or xs (at - 1) d ∷ drop at xs
one_back xs at d some within =
    let next : at - 1 + 1 ≡ at = omega arith in
    one_left xs (at - 1) (get_or xs (at - 1) d) (omega arith) (same_read xs (at - 1) d (omega arith)) ∙ ap (λ k. get_or xs (at - 1) d ∷ drop k xs) next

pub apart_more : {X : Type 0} (key : X → Text) (xs : List X) (x : X) (is_new : Bool) → is_new ≡ not (has_text (map key xs) (key x)) → is_new ≡ true
    → are_apart (map key xs) ≡ true → are_apart (map key (x ∷ xs)) ≡ true
apart_more key xs x is_new e new rest = λ i. (sym e ∙ new) i && rest i

pub apart_less : {X : Type 0} (key : X → Text) (xs : List X) (x : X) (is_new : Bool) → is_new ≡ not (has_text (map key xs) (key x)) → is_new ≡ false
    → are_apart (map key (x ∷ xs)) ≡ false
apart_less key xs x is_new e old = ap (λ b. b && are_apart (map key xs)) (sym e ∙ old)

pub distinct_more : (ns : List ℕ) (n : ℕ) (is_new : Bool) → is_new ≡ not (list_any (λ k. nat_eq k n) ns) → is_new ≡ true → are_distinct ns ≡ true → are_distinct (n ∷ ns) ≡ true
distinct_more ns n is_new e new rest = λ i. (sym e ∙ new) i && rest i

pub distinct_less : (ns : List ℕ) (n : ℕ) (is_new : Bool) → is_new ≡ not (list_any (λ k. nat_eq k n) ns) → is_new ≡ false → are_distinct (n ∷ ns) ≡ false
distinct_less ns n is_new e old = ap (λ b. b && are_distinct ns) (sym e ∙ old)

pub distinct_before : (ns : List ℕ) (at : ℕ) → are_distinct (drop at ns) ≡ false → are_distinct ns ≡ false
distinct_before ns zero e = e
distinct_before [] (suc at) e = e
distinct_before (n ∷ ns) (suc at) e = ap (λ b. not (list_any (λ k. nat_eq k n) ns) && b) (distinct_before ns at e) ∙ and_false (not (list_any (λ k. nat_eq k n) ns))

-- ---- names

module _ (names : List (Bor Text)) where
  abbrev texts : List Text
  texts = map (λ (n : Bor Text). n.now) names

  all_short : list_all (λ (n : Bor Text). is_short n.now) names ≡ list_all is_short texts
  all_short = sym (list_all-map is_short (λ (n : Bor Text). n.now) names)

  -- not all of them are short, or all are, and as many as there may be
  pub not_short : (limit : ℕ) (short : Bool) → short ≡ list_all (λ (n : Bor Text). is_short n.now) names → short ≡ false → false ≡ are_names limit texts
  not_short limit short e h =
      let none : list_all is_short texts ≡ false = sym (e ∙ all_short) ∙ h in
      sym (ap (λ b. nat_le (length texts) limit && b && are_apart texts) none ∙ ap (λ b. b && are_apart texts) (and_false (nat_le (length texts) limit)))

  pub named : (limit : ℕ) (short apart : Bool) → length names ≤ limit → short ≡ list_all (λ (n : Bor Text). is_short n.now) names → short ≡ true
      → apart ≡ are_apart texts → apart ≡ are_names limit texts
  named limit short apart few e h is =
      let all : list_all is_short texts ≡ true = sym (e ∙ all_short) ∙ h in
      let within : nat_le (length texts) limit ≡ true = le-leb (length texts) limit (omega (arith, few, length-map names (λ (n : Bor Text). n.now))) in
      is ∙ sym (λ i. within i && all i && are_apart texts)
