-- Equality of two lists: where they differ in length, and where both are at their end.
use Rattle.std.proofs.Common.{◌≡◌, ◌≢◌, Bool, true, false, ◌&&◌, List, ℕ, [], ◌∷◌, length, refl, arith}
use Rattle.gql_plain.specs.Equal.{tree_eq, list_eq, object_eq}
use Rattle.gql_plain.specs.Shown.{tree_of, plain_trees, shown_members}
use Rattle.gql_plain.specs.declared.plain.Plain.{Plain}
use Rattle.std.specs.Str.{bytes_eq}

and_false : (a b : Bool) → b ≡ false → (a && b) ≡ false
and_false true b h = h
and_false false b h = refl

pub list_eq-lengths : (xs ys : List Plain) → length xs ≢ length ys → list_eq (plain_trees xs) (plain_trees ys) ≡ false
list_eq-lengths [] [] other = absurd (other refl)
list_eq-lengths [] (y ∷ ys) other = refl
list_eq-lengths (x ∷ xs) [] other = refl
list_eq-lengths (x ∷ xs) (y ∷ ys) other = and_false (tree_eq (tree_of x) (tree_of y)) _ (list_eq-lengths xs ys (λ e. other (omega arith)))

pub object_eq-lengths : (xs ys : List (List ℕ × Plain)) → length xs ≢ length ys → object_eq (shown_members xs) (shown_members ys) ≡ false
object_eq-lengths [] [] other = absurd (other refl)
object_eq-lengths [] (y ∷ ys) other = refl
object_eq-lengths (x ∷ xs) [] other = refl
object_eq-lengths (x ∷ xs) (y ∷ ys) other =
    and_false (bytes_eq x.0 y.0) _ (and_false (tree_eq (tree_of x.1) (tree_of y.1)) _ (object_eq-lengths xs ys (λ e. other (omega arith))))

pub list_eq-end : (xs ys : List Plain) → length xs ≡ 0 → length ys ≡ 0 → true ≡ list_eq (plain_trees xs) (plain_trees ys)
list_eq-end [] [] e f = refl
list_eq-end [] (y ∷ ys) e f = absurd (omega arith)
list_eq-end (x ∷ xs) ys e f = absurd (omega arith)

pub object_eq-end : (xs ys : List (List ℕ × Plain)) → length xs ≡ 0 → length ys ≡ 0 → true ≡ object_eq (shown_members xs) (shown_members ys)
object_eq-end [] [] e f = refl
object_eq-end [] (y ∷ ys) e f = absurd (omega arith)
object_eq-end (x ∷ xs) ys e f = absurd (omega arith)
