-- A balanced tree is low: what `least` says of heights.
use Rattle.std.proofs.Common.{◌≡◌, ℕ, zero, suc, ◌+◌, ◌*◌, ◌/◌, ◌^◌, ◌<◌, ◌≤◌, true, false, max, length, inl, inr, refl, ap, subst, add-one, arith}
use Rattle.std.specs.Prelude.{nat_eq}
use Rattle.std.proofs.lemmas.Bool.{cases_order, eqb-true, eqb-false}
use Rattle.std.proofs.Math.Nat.{two-pow-succ}
use Rattle.store_tree.specs.Contents.{Contents, binary_digits, halvings}
use Rattle.store_tree.specs.Heights.{least, DifferByAtMost}
use Rattle.store_tree.specs.Shape.{contents_of, pairs_of, IsBalanced}
use Rattle.store_tree.specs.declared.branch.Link.{Link}
use Rattle.store_tree.specs.declared.branch.Link.TheVariants.{Empty, Leaf, Fork}

pub least-zero : least 0 ≡ 0
unfolding least
least-zero i = 0

pub least-step : (h : ℕ) → least (suc (suc h)) ≡ least (suc h) + least h + 1
unfolding least
least-step h i = least (suc h) + least h + 1

pub least-one : least 1 ≡ 1
unfolding least
least-one i = 1

pub least-rises : (h : ℕ) → least h ≤ least (suc h)
least-rises zero = omega (arith, least-zero, least-one)
least-rises (suc h) = omega (arith, least-step h)

-- a balanced tree of fewer than 2 ^ d entries is at most 2 * d high
pub low : (d h n : ℕ) → least h ≤ n → n < 2 ^ d → h ≤ 2 * d
low d zero n p q = omega arith
low zero (suc zero) n p q = omega (arith, least-one)
low zero (suc (suc h)) n p q = omega (arith, least-step h, least-rises h)
low (suc d) (suc zero) n p q = omega arith
low (suc d) (suc (suc h)) n p q =
    omega (arith, low d h (least h) (omega arith) (omega (arith, two-pow-succ d, least-step h, least-rises h)))

least-level : (n : ℕ) → least (suc n) ≤ least n + least n + 1
least-level zero = omega (arith, least-zero, least-one)
least-level (suc n) = omega (arith, least-step n, least-rises n)

-- two sides and their node
pub least-fork : (l r a b : ℕ) → DifferByAtMost 1 l r → least l ≤ a → least r ≤ b → least (max l r + 1) ≤ a + b + 1
least-fork l r a b d p q =
    elim (cases_order l r) [
      | inl same ↦ let e : max l r + 1 ≡ suc r = omega arith in let f : l ≡ r = omega arith in rw e (omega (arith, least-level r, ap least f))
      | inr (inl less) ↦ let e : max l r + 1 ≡ suc (suc l) = omega arith in let f : r ≡ suc l = omega arith in rw e (omega (arith, least-step l, ap least f))
      | inr (inr more) ↦ let e : max l r + 1 ≡ suc (suc r) = omega arith in let f : l ≡ suc r = omega arith in rw e (omega (arith, least-step r, ap least f))
    ]

enough_halvings : (most n : ℕ) → n ≤ most → n < 2 ^ halvings most n
enough_halvings zero n p = omega arith
enough_halvings (suc most) n p =
    elim (nat_eq n 0) as (λ b. nat_eq n 0 ≡ b → n < 2 ^ elim b as (λ _. ℕ) [ true ↦ 0 | false ↦ halvings most (n / 2) + 1 ]) [
      | true ↦ λ e. let z = eqb-true n 0 e in omega arith
      | false ↦ λ e.
          let z = eqb-false n 0 e in
          let less : n / 2 < 2 ^ halvings most (n / 2) = enough_halvings most (n / 2) (omega arith) in
          rw (add-one (halvings most (n / 2))) (omega (arith, two-pow-succ (halvings most (n / 2))))
    ] refl

pub below-binary_digits : (n : ℕ) → n < 2 ^ binary_digits n
unfolding binary_digits
below-binary_digits n = enough_halvings n n (omega arith)

halvings-rise : (k l m n : ℕ) → k ≤ l → m ≤ n → halvings k m ≤ halvings l n
halvings-rise zero l m n p q = omega arith
halvings-rise (suc k) zero m n p q = absurd (omega arith)
halvings-rise (suc k) (suc l) m n p q =
    let rest : halvings k (m / 2) ≤ halvings l (n / 2) = halvings-rise k l (m / 2) (n / 2) (omega arith) (omega arith) in
    elim (nat_eq m 0) as (λ b. nat_eq m 0 ≡ b → elim b as (λ _. ℕ) [ true ↦ 0 | false ↦ halvings k (m / 2) + 1 ] ≤ elim (nat_eq n 0) as (λ _. ℕ) [ true ↦ 0 | false ↦ halvings l (n / 2) + 1 ]) [
      | true ↦ λ e. omega arith
      | false ↦ λ e.
          elim (nat_eq n 0) as (λ b. nat_eq n 0 ≡ b → halvings k (m / 2) + 1 ≤ elim b as (λ _. ℕ) [ true ↦ 0 | false ↦ halvings l (n / 2) + 1 ]) [
            | true ↦ λ f. let z = eqb-true n 0 f in let w = eqb-false m 0 e in absurd (omega arith)
            | false ↦ λ f. omega (arith, rest)
          ] refl
    ] refl

-- more entries, no fewer digits
pub binary_digits-rise : (m n : ℕ) → m ≤ n → binary_digits m ≤ binary_digits n
unfolding binary_digits
binary_digits-rise m n p = halvings-rise m n m n p p

pub low-opened : {V : Type 0} (link : Link V) (d : Contents V) → IsBalanced link → contents_of link ≡ d → d.height ≤ 2 * binary_digits (length d.pairs)
low-opened Empty d p q = subst (λ x. x.height ≤ 2 * binary_digits (length x.pairs)) q (omega arith)
low-opened (Leaf leaf) d p q =
    subst (λ x. x.height ≤ 2 * binary_digits (length x.pairs)) q
    (low _ 1 (length leaf.value) (omega (arith, least-one, p.0)) (below-binary_digits _))
low-opened (Fork n) d p q =
    subst (λ x. x.height ≤ 2 * binary_digits (length x.pairs)) q
    (let counted : n.value.count ≡ length (pairs_of n.value) = p.2 in
    low _ n.value.height n.value.count p.3 (rw counted (below-binary_digits _)))

-- a branch has as many entries as its height asks for
pub enough : {V : Type 0} (link : Link V) (d : Contents V) → IsBalanced link → contents_of link ≡ d → least d.height ≤ length d.pairs
enough Empty d p q = subst (λ x. least x.height ≤ length x.pairs) q (omega (arith, least-zero))
enough (Leaf leaf) d p q = subst (λ x. least x.height ≤ length x.pairs) q (omega (arith, least-one, p.0))
enough (Fork n) d p q =
    subst (λ x. least x.height ≤ length x.pairs) q
    (let counted : n.value.count ≡ length (pairs_of n.value) = p.2 in subst (λ m. least n.value.height ≤ m) counted p.3)
