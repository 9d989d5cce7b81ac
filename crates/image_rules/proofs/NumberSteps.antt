-- A set with one more number.
use Rattle.std.proofs.Common.{◌≡◌, ℕ, Bool, true, false, cond, ◌||◌, List, is_eq, nat_cmp, nat_eq, refl, ap, ◌∙◌}
use Rattle.std.specs.Cmp.{unsigned_tied}
use Rattle.image_rules.specs.Numbers.{has_number}

either : (b x : Bool) → cond b true x ≡ (b || x)
either true x = refl
either false x = refl

pub put_number : (k n : ℕ) (old new : Bool) (before : List ℕ) → new ≡ cond (is_eq (nat_cmp k n)) true old → old ≡ has_number before n → new ≡ (nat_eq k n || has_number before n)
put_number k n old new before e h =
    e ∙ ap (λ (b : Bool). cond b true old) (unsigned_tied k n) ∙ ap (λ (o : Bool). cond (nat_eq k n) true o) h ∙ either (nat_eq k n) (has_number before n)
