-- Steps of the way to a node's place.
use Rattle.std.proofs.Common.{◌≡◌, ℕ, zero, suc, ◌+◌, ◌<◌, List, [], ◌∷◌, ◌++◌, Some, length, drop, get_or, refl, ap, subst, ◌∙◌, sym, arith}
use Rattle.std.proofs.lemmas.List.{drop_more}
use Rattle.plan_ir.specs.gql_ast.declared.document.Document.{Document}
use Rattle.plan_ir.specs.gql_ast.declared.place.FilePlace.{FilePlace}
use Rattle.plan_ir.specs.gql_ast.declared.place.Placed.{Placed}
use Rattle.plan_project.specs.Faults.{place_at}
use Rattle.plan_ir.specs.schema_types.DocumentRules.{places_of}

pub place_found : (xs : List FilePlace) (n : ℕ) (d : FilePlace) → n < length xs → place_at xs n ≡ Some (get_or xs n d)
place_found [] n d h = absurd (omega arith)
place_found (x ∷ xs) zero d h = refl
place_found (x ∷ xs) (suc n) d h = place_found xs n d (omega arith)

within_first : (xs ys : List FilePlace) (n : ℕ) (d : FilePlace) → n < length xs → place_at (xs ++ ys) n ≡ Some (get_or xs n d)
within_first [] ys n d h = absurd (omega arith)
within_first (x ∷ xs) ys zero d h = refl
within_first (x ∷ xs) ys (suc n) d h = within_first xs ys n d (omega arith)

behind_first : (xs ys : List FilePlace) (n m : ℕ) → n ≡ length xs + m → place_at (xs ++ ys) n ≡ place_at ys m
behind_first [] ys n m e = ap (place_at ys) (omega (arith, e))
behind_first (x ∷ xs) ys zero m e = absurd (omega (arith, e))
behind_first (x ∷ xs) ys (suc n) m e = behind_first xs ys n m (omega (arith, e))

behind_length : (xs ys : List FilePlace) (n m : ℕ) → n ≡ length xs + m → n < length (xs ++ ys) → m < length ys
behind_length [] ys n m e h = omega (arith, e, h)
behind_length (x ∷ xs) ys zero m e h = absurd (omega (arith, e))
behind_length (x ∷ xs) ys (suc n) m e h = behind_length xs ys n m (omega (arith, e)) (omega (arith, h))

places_next : (ps : List (Placed Document)) (i : ℕ) (p : Placed Document) → i < length ps → p ≡ get_or ps i p
    → places_of (drop i ps) ≡ p.places ++ places_of (drop (i + 1) ps)
places_next ps i p within is = ap places_of (drop_more ps i p within) ∙ ap (λ (q : Placed Document). q.places ++ places_of (drop (i + 1) ps)) (sym is)

pub place_here : (ps : List (Placed Document)) (i : ℕ) (p : Placed Document) (n : ℕ) (d : FilePlace) → i < length ps → p ≡ get_or ps i p → n < length p.places
    → place_at (places_of (drop i ps)) n ≡ Some (get_or p.places n d)
place_here ps i p n d within is h = ap (λ xs. place_at xs n) (places_next ps i p within is) ∙ within_first p.places (places_of (drop (i + 1) ps)) n d h

pub place_behind : (ps : List (Placed Document)) (i : ℕ) (p : Placed Document) (n m : ℕ) → i < length ps → p ≡ get_or ps i p → n ≡ length p.places + m
    → place_at (places_of (drop i ps)) n ≡ place_at (places_of (drop (i + 1) ps)) m
place_behind ps i p n m within is e = ap (λ xs. place_at xs n) (places_next ps i p within is) ∙ behind_first p.places (places_of (drop (i + 1) ps)) n m e

pub left_behind : (ps : List (Placed Document)) (i : ℕ) (p : Placed Document) (n m : ℕ) → i < length ps → p ≡ get_or ps i p → n ≡ length p.places + m
    → n < length (places_of (drop i ps)) → m < length (places_of (drop (i + 1) ps))
left_behind ps i p n m within is e h =
    behind_length p.places (places_of (drop (i + 1) ps)) n m e (subst (λ xs. n < length xs) (places_next ps i p within is) h)
