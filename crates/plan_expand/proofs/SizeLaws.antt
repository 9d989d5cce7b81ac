-- Sizes beside each other, and loops over what has a size.
use Rattle.std.proofs.Common.{◌≡◌, ℕ, ◌+◌, ◌<◌, ◌≤◌, List, [], ◌∷◌, drop, length, get_or, ap, sym, ◌∙◌, arith}
use Rattle.std.specs.Prelude.{max}
use Rattle.std.proofs.lemmas.List.{drop_all, drop_more}
use Rattle.plan_expand.specs.Sizes.{beside, nothing}
use Rattle.plan_expand.specs.declared.size.Size.{Size}

pub beside_assoc : (a b c : Size) → beside (beside a b) c ≡ beside a (beside b c)
beside_assoc a b c =
    let n : (a.count + b.count) + c.count ≡ a.count + (b.count + c.count) = omega arith in
    let d : max (max a.depth b.depth) c.depth ≡ max a.depth (max b.depth c.depth) = omega arith in
    λ i. record { count = n i; depth = d i }

pub beside_nothing : (a : Size) → beside a nothing ≡ a
beside_nothing a =
    let n : a.count + 0 ≡ a.count = omega arith in
    let d : max a.depth 0 ≡ a.depth = omega arith in
    λ i. record { count = n i; depth = d i }

pub nothing_beside : (a : Size) → beside nothing a ≡ a
nothing_beside a =
    let n : 0 + a.count ≡ a.count = omega arith in
    let d : max 0 a.depth ≡ a.depth = omega arith in
    λ i. record { count = n i; depth = d i }

-- nothing yet
pub nothing_then : (a b : Size) → a ≡ nothing → beside a b ≡ b
nothing_then a b e = ap (λ (s : Size). beside s b) e ∙ nothing_beside b

-- one more element
pub size_next : {X : Type 0} (f : List X → Size) (one : X → Size) → ((x : X) (xs : List X) → f (x ∷ xs) ≡ beside (one x) (f xs))
    → (xs : List X) (i : ℕ) (x : X) (old new whole : Size) → i < length xs → x ≡ get_or xs i x → new ≡ beside old (one x)
    → beside old (f (drop i xs)) ≡ whole → beside new (f (drop (i + 1) xs)) ≡ whole
size_next {X = X} f one law xs i x old new whole h is put w =
    let rest : Size = f (drop (i + 1) xs) in
    ap (λ (s : Size). beside s rest) put ∙ beside_assoc old (one x) rest
    ∙ ap (λ (y : X). beside old (beside (one y) rest)) is
    ∙ sym (ap (beside old) (ap f (drop_more xs i x h) ∙ law (get_or xs i x) (drop (i + 1) xs))) ∙ w

-- all elements
pub size_end : {X : Type 0} (f : List X → Size) → f [] ≡ nothing → (xs : List X) (i : ℕ) (old whole : Size) → length xs ≤ i → beside old (f (drop i xs)) ≡ whole → old ≡ whole
size_end f none xs i old whole h w = sym (beside_nothing old) ∙ sym (ap (beside old) (ap f (drop_all i xs h) ∙ none)) ∙ w
