-- Numbers on the command line.
use Rattle.std.proofs.Common.{◌≡◌, ◌≢◌, ℕ, ◌+◌, ◌-◌, ◌*◌, ◌≤◌, Bool, true, false, not, ◌&&◌, ◌||◌, nat_eq, nat_le, List, [], ◌∷◌, length, inl, inr, arith, refl, sym}
use Rattle.std.specs.Prelude.{bytes_eq, codes, fold}
use Rattle.std.proofs.lemmas.Bool.{and_parts, and_from, or_cases, leb-true, eqb-true, eqb-false, eq-eqb, not-true, false≢true}
use Rattle.relay_forms.specs.Words.{is_buffer, decimal}

same_truth : (x y : Bool) → (x ≡ true → y ≡ true) → (y ≡ true → x ≡ true) → x ≡ y
same_truth true true to from = refl
same_truth true false to from = sym (to refl)
same_truth false true to from = from refl
same_truth false false to from = refl

abbrev digit : ℕ → Bool
digit b = nat_le 48 b && nat_le b 57

abbrev pub more : ℕ → ℕ → ℕ
more n b = 10 * n + (b - 48)

pub more_of : (n : ℕ) (bs : List ℕ) → n ≤ fold more n bs
more_of n [] = omega arith
more_of n (b ∷ bs) = omega (arith, more_of (more n b) bs)

-- a number with more than one digit does not begin with zero
first_digit : (a : ℕ) (t : Bool) → ((nat_le 48 a && nat_le a 57) && t) ≡ true → (not (nat_eq a 48) || not true) ≡ true → 49 ≤ a
first_digit a t digits front =
    let low : 48 ≤ a = leb-true 48 a (and_parts _ _ (and_parts _ _ digits).0).0 in
    elim (or_cases (not (nat_eq a 48)) false front) [
      | inl x ↦ let other : a ≢ 48 = eqb-false a 48 (not-true _ x) in omega (arith, low, other)
      | inr x ↦ absurd (false≢true x)
    ]

digits_of_100 : (a b c : ℕ) → is_buffer (a ∷ b ∷ c ∷ []) ≡ true → (a ≡ 49) × (b ≡ 48) × (c ≡ 48)
digits_of_100 a b c h =
    let parts = and_parts _ _ h in
    let front = and_parts _ _ parts.0 in
    let decimal_is = and_parts _ _ front.0 in
    let first : 49 ≤ a = first_digit a _ decimal_is.0 decimal_is.1 in
    let rest = and_parts (nat_le 48 a && nat_le a 57) (digit b && (digit c && true)) decimal_is.0 in
    let b_is = and_parts (digit b) (digit c && true) rest.1 in
    let c_is = and_parts (digit c) true b_is.1 in
    let b_low : 48 ≤ b = leb-true 48 b (and_parts (nat_le 48 b) (nat_le b 57) b_is.0).0 in
    let c_low : 48 ≤ c = leb-true 48 c (and_parts (nat_le 48 c) (nat_le c 57) c_is.0).0 in
    let most : decimal (a ∷ b ∷ c ∷ []) ≤ 100 = leb-true _ 100 parts.1 in
    (omega (arith, first, b_low, c_low, most), omega (arith, first, b_low, c_low, most), omega (arith, first, b_low, c_low, most))

no_more : (a b c d : ℕ) (ds : List ℕ) → is_buffer (a ∷ b ∷ c ∷ d ∷ ds) ≡ true → ⊥
no_more a b c d ds h =
    let parts = and_parts _ _ h in
    let front = and_parts _ _ parts.0 in
    let decimal_is = and_parts _ _ front.0 in
    let first : 49 ≤ a = first_digit a _ decimal_is.0 decimal_is.1 in
    let most : decimal (a ∷ b ∷ c ∷ d ∷ ds) ≤ 100 = leb-true _ 100 parts.1 in
    omega (arith, first, most, more_of (more (more (more (more 0 a) b) c) d) ds)

one_zero_zero : (a b c : ℕ) → (a ≡ 49) × (b ≡ 48) × (c ≡ 48) → is_buffer (a ∷ b ∷ c ∷ []) ≡ true
one_zero_zero a b c (p, q, r) = rw (p, q, r) refl

never : (x y z : Bool) → (x && (y && (z && false))) ≡ true → ⊥
never x y z h = false≢true (and_parts z false (and_parts y (z && false) (and_parts x (y && (z && false)) h).1).1).1

pub other : (w : List ℕ) → 3 ≤ length w → bytes_eq w (codes "100") ≡ is_buffer w
other [] h = refl
other (a ∷ []) h = absurd (omega (arith, h))
other (a ∷ b ∷ []) h = absurd (omega (arith, h))
other (a ∷ b ∷ c ∷ []) h =
    same_truth _ _
    (λ e. let p = and_parts _ _ e in let q = and_parts _ _ p.1 in let r = and_parts _ _ q.1 in
    one_zero_zero a b c (eqb-true a 49 p.0, eqb-true b 48 q.0, eqb-true c 48 r.0))
    (λ e. let p = digits_of_100 a b c e in
    and_from _ _ (eq-eqb a 49 p.0) (and_from _ _ (eq-eqb b 48 p.1) (and_from _ _ (eq-eqb c 48 p.2) refl)))
other (a ∷ b ∷ c ∷ d ∷ ds) h =
    same_truth _ _
    (λ e. absurd (never (nat_eq a 49) (nat_eq b 48) (nat_eq c 48) e))
    (λ e. absurd (no_more a b c d ds e))

-- ---- the number

digit_of : (b : ℕ) (t u : Bool) → ((nat_le 48 b && nat_le b 57) && t) ≡ true → 48 ≤ b
digit_of b t u h = leb-true 48 b (and_parts _ _ (and_parts _ _ h).0).0

pub one_digit : (a : ℕ) → is_buffer (a ∷ []) ≡ true → 48 ≤ a
one_digit a h =
    let front = and_parts _ _ (and_parts _ _ h).0 in
    let all = and_parts _ _ front.0 in
    digit_of a true true all.0

pub two_digits : (a b : ℕ) → is_buffer (a ∷ b ∷ []) ≡ true → (48 ≤ a) × (48 ≤ b)
two_digits a b h =
    let front = and_parts _ _ (and_parts _ _ h).0 in
    let all = and_parts _ _ front.0 in
    let rest = and_parts (digit a) (digit b && true) all.0 in
    (leb-true 48 a (and_parts (nat_le 48 a) (nat_le a 57) rest.0).0, digit_of b true true rest.1)

pub three_digits : (w : List ℕ) → 3 ≤ length w → is_buffer w ≡ true → decimal w ≡ 100
three_digits [] long h = absurd (omega (arith, long))
three_digits (a ∷ []) long h = absurd (omega (arith, long))
three_digits (a ∷ b ∷ []) long h = absurd (omega (arith, long))
three_digits (a ∷ b ∷ c ∷ []) long h = let p = digits_of_100 a b c h in rw (p.0, p.1, p.2) refl
three_digits (a ∷ b ∷ c ∷ d ∷ ds) long h = absurd (no_more a b c d ds h)

pub no_digits : is_buffer [] ≡ true → ⊥
no_digits h = false≢true h
