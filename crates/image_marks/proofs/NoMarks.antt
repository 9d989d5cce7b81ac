-- A text that is no mark.
use Rattle.std.proofs.Common.{◌≡◌, ℕ, true, false, List, [], ◌∷◌, codes, None, refl, ap, eqb-true, bytes_eq, ◌==◌}
use Rattle.store_record.specs.Keys.{Text}
use Rattle.image_marks.specs.Flat.{Open, take_text}

not_quote : (c : ℕ) (cs : Text) → ((rest : Text) → c ∷ cs ≡ 39 ∷ rest → ⊥) → (c == 39) ≡ false
not_quote c cs h = elim (c == 39) as (λ b. (c == 39) ≡ b → b ≡ false) [ true ↦ λ e. absurd (h cs (ap (λ x. x ∷ cs) (eqb-true c 39 e))) | false ↦ λ e. refl ] refl

pub no_mark : (t : Text) (os : List Open) → ((rest : Text) → t ≡ 39 ∷ rest → ⊥) → bytes_eq t (codes "[") ≡ false → bytes_eq t (codes "]") ≡ false → bytes_eq t (codes "{") ≡ false → bytes_eq t (codes "}") ≡ false
    → take_text t os ≡ None
no_mark [] os h a b d e = refl
no_mark (c ∷ cs) os h a b d e = rw (not_quote c cs h, a, b, d, e) refl
