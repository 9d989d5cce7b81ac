-- Numbers of the first bytes are in the order of the texts.
use Rattle.std.proofs.Common.{◌≡◌, ◌+◌, ◌*◌, ◌^◌, ◌<◌, ◌⊎◌, ℕ, zero, suc, List, [], ◌∷◌, Ordering, Less, Equal, Greater, get_or, nat_cmp, inl, inr, refl, sym, ap, ◌∙◌, subst, pow-suc, arith}
use Rattle.std.proofs.lemmas.Nat.{mul-le}
use Rattle.std.specs.Cmp.{nat_cmp_is, ranks}
use Rattle.std.specs.Cmp.Lexicographic.{slice_cmp}
use Rattle.std.specs.Ordering.{MatchOrdering, ordering_then}
use Rattle.gql_order.specs.Heads.{IsHead, head_of}

abbrev pub order : List ℕ → List ℕ → Ordering
order = slice_cmp nat_cmp

pub less_number : (x y : ℕ) → x < y → nat_cmp x y ≡ Less
less_number x y lt = sym (nat_cmp_is x y Less lt)

pub same_number : (x y : ℕ) → x ≡ y → nat_cmp x y ≡ Equal
same_number x y e = sym (nat_cmp_is x y Equal e)

-- a number of so many bytes, of which the first counts most
abbrev number : ℕ → List ℕ → ℕ
number zero text = 0
number (suc n) [] = 0
number (suc n) (x ∷ text) = x * 256 ^ n + number n text

abbrev AreBytes : ℕ → List ℕ → Type 0
AreBytes zero text = Unit {0}
AreBytes (suc n) [] = Unit {0}
AreBytes (suc n) (x ∷ text) = (x < 256) × AreBytes n text

bytes_of : (n : ℕ) (text : List ℕ) → ((at : ℕ) → at < n → get_or text at 0 < 256) → AreBytes n text
bytes_of zero text small = tt
bytes_of (suc n) [] small = tt
bytes_of (suc n) (x ∷ text) small = (small 0 (omega arith), bytes_of n text (λ at lt. small (suc at) (omega (arith, lt))))

-- the first byte, and what the others are worth
below_more : (x power rest : ℕ) → x < 256 → rest < power → x * power + rest < 256 * power
below_more x power rest small fits = omega (arith, mul-le (x + 1) power 256 power (omega arith) (omega arith))

below_power : (n : ℕ) (text : List ℕ) → AreBytes n text → number n text < 256 ^ n
below_power zero text small = omega arith
below_power (suc n) [] small = power_pos (suc n)
  where
    power_pos : (m : ℕ) → 0 < 256 ^ m
    power_pos zero = omega arith
    power_pos (suc m) = subst (λ p. 0 < p) (sym (pow-suc 256 m)) (omega (arith, power_pos m))
below_power (suc n) (x ∷ text) small =
    subst (λ p. x * 256 ^ n + number n text < p) (sym (pow-suc 256 n)) (turned (256 ^ n) (below_more x (256 ^ n) (number n text) small.0 (below_power n text small.1)))
  where
    turned : (p : ℕ) → x * 256 ^ n + number n text < 256 * p → x * 256 ^ n + number n text < p * 256
    turned p lt = omega (arith, lt)

first_tells : (x y power r s : ℕ) → r < power → s < power → x * power + r < y * power + s → (x < y) ⊎ ((x ≡ y) × (r < s))
first_tells x y power r s fits also lt = on (nat_cmp x y) (ranks x y)
  where
    on : (o : Ordering) → MatchOrdering o (x < y) (x ≡ y) (y < x) → (x < y) ⊎ ((x ≡ y) × (r < s))
    on Less h = inl h
    on Equal h = inr (h, (let same : x * power ≡ y * power = ap (λ z. z * power) h in omega (arith, same, lt)))
    on Greater h = absurd (omega (arith, mul-le (y + 1) power x power (omega (arith, h)) (omega arith), lt, fits, also))

less_by_number : (n : ℕ) (one other : List ℕ) → AreBytes n one → AreBytes n other → number n one < number n other → order one other ≡ Less
less_by_number zero one other small also lt = absurd (omega (arith, lt))
less_by_number (suc n) [] [] small also lt = absurd (omega (arith, lt))
less_by_number (suc n) [] (y ∷ other) small also lt = refl
less_by_number (suc n) (x ∷ one) [] small also lt = absurd (omega (arith, lt))
less_by_number (suc n) (x ∷ one) (y ∷ other) small also lt =
    on (first_tells x y (256 ^ n) (number n one) (number n other) (below_power n one small.1) (below_power n other also.1) lt) (less_by_number n one other small.1 also.1)
  where
    on : (x < y) ⊎ ((x ≡ y) × (number n one < number n other)) → (number n one < number n other → order one other ≡ Less) → order (x ∷ one) (y ∷ other) ≡ Less
    on (inl h) rest = ap (λ o. ordering_then o (order one other)) (less_number x y h)
    on (inr h) rest = ap (λ o. ordering_then o (order one other)) (same_number x y h.0) ∙ rest h.1

-- ---- eight bytes

number_of : (text : List ℕ) → head_of text ≡ number 8 text
number_of [] = omega arith
number_of (a ∷ []) = omega arith
number_of (a ∷ b ∷ []) = omega arith
number_of (a ∷ b ∷ c ∷ []) = omega arith
number_of (a ∷ b ∷ c ∷ d ∷ []) = omega arith
number_of (a ∷ b ∷ c ∷ d ∷ e ∷ []) = omega arith
number_of (a ∷ b ∷ c ∷ d ∷ e ∷ f ∷ []) = omega arith
number_of (a ∷ b ∷ c ∷ d ∷ e ∷ f ∷ g ∷ []) = omega arith
number_of (a ∷ b ∷ c ∷ d ∷ e ∷ f ∷ g ∷ h ∷ text) = omega arith

pub less_by_heads : (one other : List ℕ) (h k : ℕ) → IsHead one h → IsHead other k → h < k → order one other ≡ Less
less_by_heads one other h k is also lt =
    less_by_number 8 one other (bytes_of 8 one is.bytes) (bytes_of 8 other also.bytes) (omega (arith, lt, is.is ∙ number_of one, also.is ∙ number_of other))
