-- How lists that end in one more element are compared.
use Rattle.std.proofs.Common.{◌≡◌, ◌≤◌, ◌+◌, List, [], ◌∷◌, ◌++◌, length, Ordering, Less, Equal, Greater, refl, ap, ◌∙◌, arith}
use Rattle.std.specs.Cmp.Lexicographic.{slice_cmp}
use Rattle.std.specs.Ordering.{ordering_then}

then_assoc : (o p q : Ordering) → ordering_then o (ordering_then p q) ≡ ordering_then (ordering_then o p) q
then_assoc Less p q = refl
then_assoc Equal p q = refl
then_assoc Greater p q = refl

then_equal : (o : Ordering) → ordering_then o Equal ≡ o
then_equal Less = refl
then_equal Equal = refl
then_equal Greater = refl

pub unequal_then : (o p : Ordering) → (o ≡ Equal → ⊥) → o ≡ ordering_then o p
unequal_then Less p other = refl
unequal_then Equal p other = absurd (other refl)
unequal_then Greater p other = refl

module _ {A : Type 0} (cmp : A → A → Ordering) where
  pub both_longer : (xs ys : List A) (x y : A) → length xs ≡ length ys → slice_cmp cmp (xs ++ x ∷ []) (ys ++ y ∷ []) ≡ ordering_then (slice_cmp cmp xs ys) (cmp x y)
  both_longer [] [] x y e = then_equal (cmp x y)
  both_longer [] (w ∷ ys) x y e = absurd (omega (arith, e))
  both_longer (v ∷ xs) [] x y e = absurd (omega (arith, e))
  both_longer (v ∷ xs) (w ∷ ys) x y e =
      ap (ordering_then (cmp v w)) (both_longer xs ys x y (omega (arith, e))) ∙ then_assoc (cmp v w) (slice_cmp cmp xs ys) (cmp x y)

  pub first_longer : (xs ys : List A) (x : A) → length ys ≤ length xs → slice_cmp cmp (xs ++ x ∷ []) ys ≡ ordering_then (slice_cmp cmp xs ys) Greater
  first_longer [] [] x le = refl
  first_longer [] (w ∷ ys) x le = absurd (omega (arith, le))
  first_longer (v ∷ xs) [] x le = refl
  first_longer (v ∷ xs) (w ∷ ys) x le =
      ap (ordering_then (cmp v w)) (first_longer xs ys x (omega (arith, le))) ∙ then_assoc (cmp v w) (slice_cmp cmp xs ys) Greater

  pub second_longer : (xs ys : List A) (y : A) → length xs ≤ length ys → slice_cmp cmp xs (ys ++ y ∷ []) ≡ ordering_then (slice_cmp cmp xs ys) Less
  second_longer [] [] y le = refl
  second_longer [] (w ∷ ys) y le = refl
  second_longer (v ∷ xs) [] y le = absurd (omega (arith, le))
  second_longer (v ∷ xs) (w ∷ ys) y le =
      ap (ordering_then (cmp v w)) (second_longer xs ys y (omega (arith, le))) ∙ then_assoc (cmp v w) (slice_cmp cmp xs ys) Less

  pub some_none : (xs : List A) (x : A) → slice_cmp cmp (xs ++ x ∷ []) [] ≡ Greater
  some_none [] x = refl
  some_none (v ∷ xs) x = refl

pub length_push : {A : Type 0} (xs : List A) (x : A) → length (xs ++ x ∷ []) ≡ length xs + 1
length_push [] x = omega arith
length_push (v ∷ xs) x = let rest = length_push xs x in omega (arith, rest)
