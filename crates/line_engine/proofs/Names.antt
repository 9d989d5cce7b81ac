-- Texts that are compared either way round, numbers that are compared, and two look-ups that agree.
use Rattle.std.proofs.Common.{◌≡◌, ℕ, ◌==◌, Bool, true, false, bytes_eq, Option, Some, None, is_some, refl, sym, subst}
use Rattle.std.proofs.lemmas.Bool.Decides.{Decides-eqb}
use Rattle.std.proofs.lemmas.Slice.Eq.{bytes_eq-Decides}
use Rattle.plan_project.specs.Lookups.{Agree}
use Rattle.plan_ir.specs.schema_tables.Types.{Text}

same_answer : (a b : Bool) → (a ≡ true → b ≡ true) → (b ≡ true → a ≡ true) → a ≡ b
same_answer true b f g = sym (f refl)
same_answer false true f g = g refl
same_answer false false f g = refl

pub bytes_eq-sym : (xs ys : Text) → bytes_eq xs ys ≡ bytes_eq ys xs
bytes_eq-sym xs ys =
    same_answer _ _ (λ h. (bytes_eq-Decides ys xs).1 (sym ((bytes_eq-Decides xs ys).0 h))) (λ h. (bytes_eq-Decides xs ys).1 (sym ((bytes_eq-Decides ys xs).0 h)))

-- ---- numbers

not_true : (b : Bool) → (b ≡ true → ⊥) → b ≡ false
not_true true h = absurd (h refl)
not_true false h = refl

pub equal : (a b : ℕ) → a ≡ b → (a == b) ≡ true
equal a b h = (Decides-eqb a b).1 h

pub unequal : (a b : ℕ) → (a ≡ b → ⊥) → (a == b) ≡ false
unequal a b h = not_true (a == b) (λ e. h ((Decides-eqb a b).0 e))

-- what holds of two look-ups, where one of them is known
module _ {X Y : Type 0} (P : X → Y → Type 0) where
  pub found_right : (x : Option X) (y : Option Y) (a : X) → Agree P x y → x ≡ Some a → (b : Y) × (y ≡ Some b) × P a b
  found_right x None a h e = absurd (subst (λ o. Agree P o None) e h)
  found_right x (Some b) a h e = (b, refl, subst (λ o. Agree P o (Some b)) e h)

  pub found_left : (x : Option X) (y : Option Y) (b : Y) → Agree P x y → y ≡ Some b → (a : X) × (x ≡ Some a) × P a b
  found_left None y b h e = absurd (subst (λ o. Agree P None o) e h)
  found_left (Some a) y b h e = (a, refl, subst (λ o. Agree P (Some a) o) e h)

  -- both are known
  pub agreed : (x : Option X) (y : Option Y) (a : X) (b : Y) → Agree P x y → x ≡ Some a → y ≡ Some b → P a b
  agreed x y a b h e f = subst (λ o. Agree P (Some a) o) f (subst (λ o. Agree P o y) e h)

  pub none_right : (x : Option X) (y : Option Y) → Agree P x y → x ≡ None → y ≡ None
  none_right x None h e = refl
  none_right x (Some b) h e = absurd (subst (λ o. Agree P o (Some b)) e h)

  pub none_left : (x : Option X) (y : Option Y) → Agree P x y → y ≡ None → x ≡ None
  none_left None y h e = refl
  none_left (Some a) y h e = absurd (subst (λ o. Agree P (Some a) o) e h)

  pub both_there : (x : Option X) (y : Option Y) → Agree P x y → is_some x ≡ is_some y
  both_there None None h = refl
  both_there None (Some b) h = absurd h
  both_there (Some a) None h = absurd h
  both_there (Some a) (Some b) h = refl
