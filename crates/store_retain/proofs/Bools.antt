-- Whether some element of a list passes a test.
use Rattle.std.proofs.Common.{◌≡◌, Bool, true, false, true≢false, ◌||◌, ◌&&◌, List, [], ◌∷◌, ◌++◌, refl, sym, ap, ◌∙◌}
use Rattle.std.specs.List.{list_any}

pub or_assoc : (a b c : Bool) → ((a || b) || c) ≡ (a || (b || c))
or_assoc true b c = refl
or_assoc false b c = refl

pub or_false : (a : Bool) → (a || false) ≡ a
or_false true = refl
or_false false = refl

pub or_twice : (a r : Bool) → (a || r) ≡ ((a || r) || a)
or_twice true r = refl
or_twice false r = sym (or_false r)

pub or_four : (a b c d : Bool) → ((a || b) || (c || d)) ≡ ((a || c) || (b || d))
or_four true b c d = refl
or_four false true true d = refl
or_four false true false d = refl
or_four false false c d = refl

pub and_none : (p x : Bool) → p ≡ false → false ≡ (p && x)
and_none true x e = absurd (true≢false e)
and_none false x e = refl

pub and_some : (p x : Bool) → p ≡ true → x ≡ (p && x)
and_some true x e = refl
and_some false x e = absurd (true≢false (sym e))

module _ {X : Type 0} where
  pub any_append : (p : X → Bool) (xs ys : List X) → list_any p (xs ++ ys) ≡ (list_any p xs || list_any p ys)
  any_append p [] ys = refl
  any_append p (x ∷ xs) ys = ap (λ b. p x || b) (any_append p xs ys) ∙ sym (or_assoc (p x) (list_any p xs) (list_any p ys))

  pub any_either : (p q : X → Bool) (xs : List X) → list_any (λ x. p x || q x) xs ≡ (list_any p xs || list_any q xs)
  any_either p q [] = refl
  any_either p q (x ∷ xs) = ap (λ b. (p x || q x) || b) (any_either p q xs) ∙ or_four (p x) (q x) (list_any p xs) (list_any q xs)

  pub any_same : (p q : X → Bool) → ((x : X) → p x ≡ q x) → (xs : List X) → list_any p xs ≡ list_any q xs
  any_same p q h [] = refl
  any_same p q h (x ∷ xs) = λ i. h x i || any_same p q h xs i
