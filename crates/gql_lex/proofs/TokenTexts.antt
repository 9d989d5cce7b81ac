-- What the text of a punctuator begins with, and that of a whole number.
use Rattle.std.proofs.Common.{◌≡◌, ◌<◌, ◌≤◌, ℕ, ◌+◌, ◌-◌, ◌⊎◌, Bool, true, false, cond, eqb, List, [], ◌∷◌, length, get_or, take, drop, refl, sym, arith, inl, inr, ⊎_elim, true≢false}
use Rattle.std.specs.List.{prefix_len}
use Rattle.std.specs.Str.Parse.{AllDigits}
use Rattle.std.proofs.lemmas.Bool.{eqb-true, eqb-false}
use Rattle.std.proofs.lemmas.List.{length-drop, length-take, take_all}
use Rattle.gql_lex.specs.declared.tokens.TokenKind.TheVariants.{Punct, Int}
use Rattle.gql_lex.specs.declared.tokens.Head.TheVariants.{Found}
use Rattle.gql_lex.specs.Characters.{is_punctuator, is_spread, is_float_mark, is_digit}
use Rattle.gql_plain.specs.Names.{is_name_byte}
use Rattle.gql_lex.specs.Numbers.{sign_len, digits_len, int_len, is_in_i64}
use Rattle.gql_lex.specs.Heads.{int_before, number, IsToken}
use Rattle.gql_lex.proofs.Fronts.{choice, begins, wrong_found}
use Rattle.gql_lex.proofs.Digits.{run_digits, zero_digit}

pub punct_text : (text : List ℕ) → IsToken Punct text → (is_punctuator (get_or text 0 0) ≡ true) ⊎ (is_spread text ≡ true)
unfolding IsToken
punct_text text e = ⊎_elim (λ w. inl w.0) (λ w. inr w.0) (begins text Punct (length text - 1) e)

pub punct_some : (text : List ℕ) → IsToken Punct text → 0 < length text
unfolding IsToken
punct_some [] e = ⊎_elim (λ p. absurd (true≢false (sym p))) (λ p. absurd (true≢false (sym p))) (punct_text [] e)
punct_some (c ∷ cs) e = omega arith

-- ---- whole numbers

int_found : (text rest : List ℕ) (n : ℕ) → int_before text rest ≡ Found Int n → (length text - 1 ≡ n) × (is_in_i64 text ≡ true)
unfolding int_before
int_found text rest n e =
    ⊎_elim (λ w. absurd (wrong_found 3 0 Int n w.1)) (λ w. ⊎_elim (λ v. absurd (wrong_found 2 0 Int n v.1)) (λ v. ⊎_elim (λ u. let q = u.1 in (cc, u.0)) (λ u. absurd (wrong_found 2 0 Int n u.1))
    (choice (is_in_i64 text) _ _ _ v.1)) (choice (is_name_byte (get_or rest 0 0)) _ _ _ w.1)) (choice (is_float_mark (get_or rest 0 0)) _ _ _ e)

pub number_found : (bs : List ℕ) (n : ℕ) → number bs ≡ Found Int n → ¬ (digits_len (drop (sign_len bs) bs) ≡ 0) × ((length (take (int_len bs) bs) - 1 ≡ n) × (is_in_i64 (take (int_len bs) bs) ≡ true))
unfolding number
number_found bs n e =
    ⊎_elim (λ w. absurd (wrong_found 2 0 Int n w.1)) (λ w. (eqb-false _ 0 w.0, int_found (take (int_len bs) bs) (drop (int_len bs) bs) n w.1)) (choice (eqb (digits_len (drop (sign_len bs) bs)) 0) _ _ _ e)

digits_by : (bs : List ℕ) (b : Bool) → eqb (get_or bs 0 0) 48 ≡ b → AllDigits 10 (take (cond b 1 (prefix_len is_digit bs)) bs)
digits_by bs true e = zero_digit bs (eqb-true (get_or bs 0 0) 48 e)
digits_by bs false e = run_digits bs

digits_all : (bs : List ℕ) → AllDigits 10 (take (digits_len bs) bs)
digits_all bs = digits_by bs (eqb (get_or bs 0 0) 48) refl

-- the text of an Int: a sign, digits, and a number within i64
pub record IntText (text : List ℕ) : Type 0 where
  pub some : sign_len text < length text
  pub digits : AllDigits 10 (drop (sign_len text) text)
  pub within : is_in_i64 text ≡ true

int_whole : (text : List ℕ) (s d : ℕ) → s ≡ sign_len text → d ≡ digits_len (drop s text) → ¬ (d ≡ 0) → length (take (s + d) text) - 1 ≡ length text - 1
    → AllDigits 10 (take d (drop s text)) → is_in_i64 (take (s + d) text) ≡ true → s < length text → IntText text
int_whole text s d p q z n a w l =
    let o : length text ≤ s + d = omega (arith, n, z, length-take (s + d) text) in
    let t : take (s + d) text ≡ text = take_all (s + d) text o in
    let u : take d (drop s text) ≡ drop s text = take_all d (drop s text) (omega (arith, length-drop s text)) in
    record { some = omega (arith, p); digits = rw p at (rw u at a); within = rw t at w }

digits_short : (bs : List ℕ) → ¬ (digits_len bs ≡ 0) → 0 < length bs
digits_short [] z = absurd (z refl)
digits_short (c ∷ cs) z = omega arith

pub int_text : (text : List ℕ) → IsToken Int text → IntText text
unfolding IsToken
int_text text e =
    let f = number_found text (length text - 1) (begins text Int (length text - 1) e) in
    let l : sign_len text < length text = omega (arith, digits_short (drop (sign_len text) text) f.0, length-drop (sign_len text) text) in
    int_whole text (sign_len text) (digits_len (drop (sign_len text) text)) refl refl f.0 f.1.0 (digits_all (drop (sign_len text) text)) f.1.1 l
