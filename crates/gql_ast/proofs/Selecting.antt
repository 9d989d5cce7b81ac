-- Laws of selection sets.
use Rattle.std.proofs.Common.{◌≡◌, ◌≤◌, ◌<◌, ℕ, List, [], ◌∷◌, ◌++◌, refl, ap, max, zero, suc, length, get_or, arith}
use Rattle.gql_ast.specs.declared.selection.Selection.{Selection}
use Rattle.gql_ast.specs.declared.selection.Selection.TheVariants as S
use Rattle.gql_ast.specs.Sels.{Sels, end, field, spread, inline, sels_append, depth, number_of}
use Rattle.gql_ast.specs.SelectionView.{sel_before, sel_of, sels_of}

-- a selection before a set is the selection alone and then the set
pub sel_before-followed : (x : Selection) (s t : Sels) → sels_append (sel_before x s) t ≡ sel_before x (sels_append s t)
sel_before-followed (S.Field a n xs ds u) s t = refl
sel_before-followed (S.Spread n ds) s t = refl
sel_before-followed (S.Inline o ds u) s t = refl

pub sels_of-append : (xs ys : List Selection) → sels_of (xs ++ ys) ≡ sels_append (sels_of xs) (sels_of ys)
sels_of-append [] ys = refl
sels_of-append (S.Field a n zs ds s ∷ xs) ys = ap (λ t. field a n zs ds s t) (sels_of-append xs ys)
sels_of-append (S.Spread n ds ∷ xs) ys = ap (λ t. spread n ds t) (sels_of-append xs ys)
sels_of-append (S.Inline o ds s ∷ xs) ys = ap (λ t. inline o ds s t) (sels_of-append xs ys)

pub followed-end : (s : Sels) → sels_append s end ≡ s
followed-end end = refl
followed-end (field a n xs ds s t) = ap (λ r. field a n xs ds s r) (followed-end t)
followed-end (spread n ds t) = ap (λ r. spread n ds r) (followed-end t)
followed-end (inline o ds s t) = ap (λ r. inline o ds s r) (followed-end t)

pub followed_assoc : (s t u : Sels) → sels_append (sels_append s t) u ≡ sels_append s (sels_append t u)
followed_assoc end t u = refl
followed_assoc (field a n xs ds r s) t u = ap (λ q. field a n xs ds r q) (followed_assoc s t u)
followed_assoc (spread n ds s) t u = ap (λ q. spread n ds q) (followed_assoc s t u)
followed_assoc (inline o ds r s) t u = ap (λ q. inline o ds r q) (followed_assoc s t u)

pub depth-followed : (s t : Sels) → depth (sels_append s t) ≡ max (depth s) (depth t)
depth-followed end t = omega arith
depth-followed (field a n xs ds r s) t = omega (arith, depth-followed s t)
depth-followed (spread n ds s) t = omega (arith, depth-followed s t)
depth-followed (inline o ds r s) t = omega (arith, depth-followed s t)

-- a selection before a set
pub depth-sel_before : (x : Selection) (t : Sels) → depth (sel_before x t) ≡ max (depth (sel_of x)) (depth t)
depth-sel_before (S.Field a n xs ds s) t = omega arith
depth-sel_before (S.Spread n ds) t = omega arith
depth-sel_before (S.Inline o ds s) t = omega arith

-- no selection of a set is deeper than the set
pub depth-at : (xs : List Selection) (i : ℕ) (d : Selection) → i < length xs → depth (sel_of (get_or xs i d)) ≤ depth (sels_of xs)
depth-at [] i d p = absurd (omega arith)
depth-at (x ∷ xs) zero d p = omega (arith, depth-sel_before x (sels_of xs))
depth-at (x ∷ xs) (suc i) d p =
    let e : depth (sel_of (get_or xs i d)) ≤ depth (sels_of xs) = depth-at xs i d (omega arith) in
    omega (arith, e, depth-sel_before x (sels_of xs))

pub number_of-sels_of : (xs : List Selection) → number_of (sels_of xs) ≡ length xs
number_of-sels_of [] = refl
number_of-sels_of (S.Field a n zs ds s ∷ xs) = omega (arith, number_of-sels_of xs)
number_of-sels_of (S.Spread n ds ∷ xs) = omega (arith, number_of-sels_of xs)
number_of-sels_of (S.Inline o ds s ∷ xs) = omega (arith, number_of-sels_of xs)

-- only no selections make the empty set
pub sels_of-end : (xs : List Selection) → sels_of xs ≡ end → xs ≡ []
sels_of-end [] p = refl
sels_of-end (S.Field a n zs ds s ∷ xs) p = absurd (omega (arith, ap number_of p))
sels_of-end (S.Spread n ds ∷ xs) p = absurd (omega (arith, ap number_of p))
sels_of-end (S.Inline o ds s ∷ xs) p = absurd (omega (arith, ap number_of p))
