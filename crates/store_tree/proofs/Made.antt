-- A node that was written in place.
use Rattle.std.proofs.Common.{◌≡◌, ℕ, ◌+◌, ◌<◌, ◌≤◌, ◌^◌, max, Bool, true, false, List, [], ◌∷◌, ◌++◌, length, length-append, Option, Some, None, inl, inr, refl, sym, ◌∙◌, arith}
use Rattle.std.specs.Prelude.{not, nat_eq}
use Rattle.std.specs.declared.cmp.Ordering.{Ordering}
use Rattle.std.specs.declared.cmp.Ordering.TheVariants.{Less, Equal, Greater}
use Rattle.std.specs.FinMap.Entries.{by_order, put}
use Rattle.std.proofs.lemmas.Bool.{cases_order, eqb-true}
use Rattle.store_tree.specs.Contents.{Contents}
use Rattle.store_tree.specs.Heights.{least, DifferByAtMost, IsGrown, IsSettledHeight, IsShrunk}
use Rattle.store_tree.specs.Made.{IsMade}
use Rattle.store_tree.specs.Shape.{IsEven}
use Rattle.store_tree.specs.declared.branch.Node.{Node}

-- no pair is lost where one is put in
pub length-put_least : {K X : Type 0} (R : K → K → Ordering) (key : K) (v : X) (pairs : List (K × X)) → length pairs ≤ length (put R key v pairs)
length-put_least R key v [] = omega arith
length-put_least R key v (e ∷ es) = at (length-put_least R key v es) (R key e.0)
  where
    at : length es ≤ length (put R key v es) → (o : Ordering) → length (e ∷ es) ≤ length (by_order o ((key, v) ∷ e ∷ es) ((e.0, v) ∷ es) (e ∷ put R key v es))
    at more Less = omega arith
    at more Equal = omega arith
    at more Greater = omega (arith, more)

module _ {V : Type 0} where
  pub made-again : (before after : List (List ℕ × V)) (Fits Serves : ℕ → Type 0) (node : Node V) (other : Option (Contents V)) → before ≡ after → ((h : ℕ) → Fits h → Serves h) → IsMade before Fits node other → IsMade after Serves node other
  made-again before after Fits Serves node None e serves m = (m.0, m.1 ∙ e, serves node.height m.2)
  made-again before after Fits Serves node (Some other) e serves m = (m.0 ∙ e, serves other.height m.1)

  -- a node of which one side has the same height and no entry less
  pub even-left : (n : Node V) (left : Contents V) (count : ℕ) → IsEven n → left.height ≡ n.left.height → length n.left.pairs ≤ length left.pairs
      → count + length n.left.pairs ≡ n.count + length left.pairs → count < 2 ^ 64
      → IsEven (record { left = left; item = n.item; right = n.right; count = count; height = n.height })
  even-left n left count even same longer sum fits =
      let before = length-append n.left.pairs (n.item ∷ n.right.pairs) in
      let after = length-append left.pairs (n.item ∷ n.right.pairs) in
      let counted : n.count ≡ length (n.left.pairs ++ n.item ∷ n.right.pairs) = even.2 in
      let counts : count ≡ length (left.pairs ++ n.item ∷ n.right.pairs) = omega arith in
      let least_before : least n.height ≤ n.count = even.3 in
      let enough : least n.height ≤ count = omega arith in
      rw same (even.0, even.1, counts, enough, fits)

  pub even-right : (n : Node V) (right : Contents V) (count : ℕ) → IsEven n → right.height ≡ n.right.height → length n.right.pairs ≤ length right.pairs
      → count + length n.right.pairs ≡ n.count + length right.pairs → count < 2 ^ 64
      → IsEven (record { left = n.left; item = n.item; right = right; count = count; height = n.height })
  even-right n right count even same longer sum fits =
      let before = length-append n.left.pairs (n.item ∷ n.right.pairs) in
      let after = length-append n.left.pairs (n.item ∷ right.pairs) in
      let counted : n.count ≡ length (n.left.pairs ++ n.item ∷ n.right.pairs) = even.2 in
      let counts : count ≡ length (n.left.pairs ++ n.item ∷ right.pairs) = omega arith in
      let least_before : least n.height ≤ n.count = even.3 in
      let enough : least n.height ≤ count = omega arith in
      rw same (even.0, even.1, counts, enough, fits)

  -- a node with another entry in place of its own
  pub even-middle : (n : Node V) (item : List ℕ × V) → IsEven n → IsEven (record { left = n.left; item = item; right = n.right; count = n.count; height = n.height })
  even-middle n item even =
      let before = length-append n.left.pairs (n.item ∷ n.right.pairs) in
      let after = length-append n.left.pairs (item ∷ n.right.pairs) in
      let counted : n.count ≡ length (n.left.pairs ++ n.item ∷ n.right.pairs) = even.2 in
      let counts : n.count ≡ length (n.left.pairs ++ item ∷ n.right.pairs) = omega arith in
      (even.0, even.1, counts, even.3, even.4)

-- the height of a node, one side of which grows, rises by one at most
pub grown-left : (l r before grown h : ℕ) → DifferByAtMost 1 l r → before ≡ max l r + 1 → IsGrown l grown → IsSettledHeight grown r h → IsGrown before h
grown-left l r before grown h d e g s =
    elim (cases_order grown (r + 2)) [
      | inl same ↦ (omega arith, omega arith)
      | inr (inl less) ↦ let settled : h ≡ max grown r + 1 = s.2 (omega arith, omega arith) in (omega arith, omega arith)
      | inr (inr more) ↦ (omega arith, omega arith)
    ]

pub grown-right : (l r before grown h : ℕ) → DifferByAtMost 1 l r → before ≡ max l r + 1 → IsGrown r grown → IsSettledHeight l grown h → IsGrown before h
grown-right l r before grown h d e g s =
    elim (cases_order grown (l + 2)) [
      | inl same ↦ (omega arith, omega arith)
      | inr (inl less) ↦ let settled : h ≡ max l grown + 1 = s.2 (omega arith, omega arith) in (omega arith, omega arith)
      | inr (inr more) ↦ (omega arith, omega arith)
    ]

-- the height of a node, one side of which shrinks, falls by one at most
pub shrunk-left : (l r before shrunk h : ℕ) → DifferByAtMost 1 l r → before ≡ max l r + 1 → IsShrunk l shrunk → IsSettledHeight shrunk r h → IsShrunk before h
shrunk-left l r before shrunk h d e g s =
    elim (cases_order (shrunk + 2) r) [
      | inl same ↦ (omega arith, omega arith)
      | inr (inl less) ↦ (omega arith, omega arith)
      | inr (inr more) ↦ let settled : h ≡ max shrunk r + 1 = s.2 (omega arith, omega arith) in (omega arith, omega arith)
    ]

pub shrunk-right : (l r before shrunk h : ℕ) → DifferByAtMost 1 l r → before ≡ max l r + 1 → IsShrunk r shrunk → IsSettledHeight l shrunk h → IsShrunk before h
shrunk-right l r before shrunk h d e g s =
    elim (cases_order (shrunk + 2) l) [
      | inl same ↦ (omega arith, omega arith)
      | inr (inl less) ↦ (omega arith, omega arith)
      | inr (inr more) ↦ let settled : h ≡ max l shrunk + 1 = s.2 (omega arith, omega arith) in (omega arith, omega arith)
    ]

-- two heights that do not differ
pub unchanged : (a b : ℕ) → not (nat_eq a b) ≡ false → a ≡ b
unchanged a b e = eqb-true a b (at (nat_eq a b) e)
  where
    at : (same : Bool) → not same ≡ false → same ≡ true
    at true p = refl
    at false p = sym p
