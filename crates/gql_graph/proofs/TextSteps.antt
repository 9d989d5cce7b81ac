-- Texts that are equal, and truth values.
use Rattle.std.proofs.Common.{◌≡◌, Bool, true, false, true≢false, ◌||◌, List, [], ◌∷◌, bytes_eq, refl, ap, sym, ◌∙◌, arith}
use Rattle.std.proofs.lemmas.Slice.Eq.{bytes_eq-Decides}
use Rattle.std.specs.List.{list_any}
use Rattle.gql_plain.proofs.Booleans.{or_true}
use Rattle.gql_plain.specs.Order.{has_text}
use Rattle.gql_graph.specs.Texts.{Text}

pub same_text : (m n : Text) → bytes_eq m n ≡ true → m ≡ n
same_text m n e = grind (arith, bytes_eq-Decides)

-- one of two holds
pub either_of : {P : Type 0} (a b : Bool) → (a || b) ≡ true → (a ≡ true → P) → (b ≡ true → P) → P
either_of true b e f g = f refl
either_of false b e f g = g e

pub same_self : (m : Text) → bytes_eq m m ≡ true
same_self m = grind (arith, bytes_eq-Decides)

-- what holds of some text of a list
pub some_of : {P : Type 0} (p : Text → Bool) (ns : List Text) → list_any p ns ≡ true → ((m : Text) → has_text ns m ≡ true → p m ≡ true → P) → P
some_of p [] e f = absurd (true≢false (sym e))
some_of {P = P} p (n ∷ ns) e f = either_of (p n) (list_any p ns) e (λ h. f n (ap (λ b. b || has_text ns n) (same_self n)) h)
    (λ h. some_of {P = P} p ns h (λ m k q. f m (ap (λ b. bytes_eq n m || b) k ∙ or_true (bytes_eq n m)) q))
