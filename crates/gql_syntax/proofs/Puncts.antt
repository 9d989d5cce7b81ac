-- The byte of a punctuator tells which it is.
use Rattle.std.proofs.Common.{◌≡◌, ◌≤◌, ℕ, Bool, true, eqb, leb, ◌&&◌, ◌||◌, List, get_or, refl, arith, ⊎_elim}
use Rattle.std.proofs.lemmas.Bool.{eqb-true, eqb-false, leb-true, and_parts, or_cases, cases_Bool}
use Rattle.gql_lex.specs.declared.tokens.TokenKind.TheVariants.{Punct}
use Rattle.gql_lex.specs.Characters as ch
use Rattle.gql_lex.specs.Toks.{punctuator_of}
use Rattle.gql_lex.specs.Heads.{IsToken}
use Rattle.gql_lex.proofs.TokenTexts.{punct_text}
use Rattle.gql_syntax.specs.Nexts.{is_at, is_punctuator}

abbrev pub Stands : ℕ → Type 0
Stands n = (c : ℕ) → (is_at c (punctuator_of n) ≡ eqb n c) × (is_punctuator (punctuator_of n) ≡ true)

by_byte : (n m : ℕ) → eqb n m ≡ true → Stands m → Stands n
by_byte n m e s = rw (eqb-true n m e) s

brackets : (n : ℕ) → 123 ≤ n → n ≤ 125 → Stands n
brackets n l h =
    ⊎_elim (λ e. by_byte n 123 e (λ c. (refl, refl)))
    (λ f. ⊎_elim (λ e. by_byte n 124 e (λ c. (refl, refl)))
    (λ g. let e : n ≡ 125 = omega (arith, eqb-false n 123 f, eqb-false n 124 g) in rw e (λ c. (refl, refl)))
    (cases_Bool (eqb n 124))) (cases_Bool (eqb n 123))

or_elim : (x y : Bool) (P : Type 0) → (x ≡ true → P) → (y ≡ true → P) → (x || y) ≡ true → P
or_elim x y P f g e = ⊎_elim f g (or_cases x y e)

mark_stands : (n : ℕ) → ch.is_punctuator n ≡ true → Stands n
mark_stands n =
    or_elim _ _ (Stands n) (or_elim _ _ (Stands n) (or_elim _ _ (Stands n) (or_elim _ _ (Stands n) (or_elim _ _ (Stands n) (or_elim _ _ (Stands n) (or_elim _ _ (Stands n) (or_elim _ _ (Stands n) (or_elim _ _ (Stands n) (or_elim _ _ (Stands n) (λ e. by_byte n 33 e (λ c. (refl, refl)))
    (λ e. by_byte n 36 e (λ c. (refl, refl))))
    (λ e. by_byte n 38 e (λ c. (refl, refl))))
    (λ e. by_byte n 40 e (λ c. (refl, refl))))
    (λ e. by_byte n 41 e (λ c. (refl, refl))))
    (λ e. by_byte n 58 e (λ c. (refl, refl))))
    (λ e. by_byte n 61 e (λ c. (refl, refl))))
    (λ e. by_byte n 64 e (λ c. (refl, refl))))
    (λ e. by_byte n 91 e (λ c. (refl, refl))))
    (λ e. by_byte n 93 e (λ c. (refl, refl))))
    (λ e. let p = and_parts (leb 123 n) (leb n 125) e in brackets n (leb-true 123 n p.0) (leb-true n 125 p.1))

pub punct_stands : (text : List ℕ) → IsToken Punct text → Stands (get_or text 0 0)
punct_stands text e =
    ⊎_elim (λ p. mark_stands (get_or text 0 0) p) (λ p. by_byte (get_or text 0 0) 46 (and_parts (eqb (get_or text 0 0) 46) (eqb (get_or text 1 0) 46) (and_parts (eqb (get_or text 0 0) 46 && eqb (get_or text 1 0) 46) (eqb (get_or text 2 0) 46) p).0).0 (λ c. (refl, refl)))
    (punct_text text e)
