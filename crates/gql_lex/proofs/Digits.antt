-- A run of bytes, and a run of digits.
use Rattle.std.proofs.Common.{◌≡◌, ℕ, zero, suc, ◌+◌, ◌<◌, ◌≤◌, Bool, true, false, cond, List, [], ◌∷◌, get_or, take, drop, refl, lit<, arith}
use Rattle.std.specs.List.{prefix_len}
use Rattle.std.specs.Char.{digit_value}
use Rattle.std.specs.Prelude.{IsAscii}
use Rattle.std.specs.Str.Parse.{AllDigits}
use Rattle.std.proofs.lemmas.Bool.{and_parts, leb-true, eqb-true}
use Rattle.std.proofs.lemmas.List.Sums.{prefix_len-le-length}
use Rattle.std.proofs.lemmas.Str.{digit_value_digit}
use Rattle.std.proofs.lemmas.Str.Parse.{digit_from_value}
use Rattle.gql_lex.specs.Characters.{is_digit}
use Rattle.gql_lex.specs.Numbers.{sign_len, is_negative}

pub ruleset runs = (prefix_len-le-length)

digit_below : (c : ℕ) → is_digit c ≡ true → digit_value c < 10
digit_below c e =
    let p = and_parts _ _ e in
    let low : 48 ≤ c = leb-true 48 c p.0 in
    let high : c ≤ 57 = leb-true c 57 p.1 in
    omega (arith, digit_value_digit c (low, high))

run_step : (c n : ℕ) (cs : List ℕ) (b : Bool) → is_digit c ≡ b → AllDigits 10 (take n cs) → AllDigits 10 (take (cond b (1 + n) 0) (c ∷ cs))
run_step c n cs true e h = let s : 1 + n ≡ suc n = omega arith in rw s (digit_below c e, h)
run_step c n cs false e h = tt

pub run_digits : (bs : List ℕ) → AllDigits 10 (take (prefix_len is_digit bs) bs)
run_digits [] = tt
run_digits (c ∷ cs) = run_step c (prefix_len is_digit cs) cs (is_digit c) refl (run_digits cs)

pub zero_digit : (bs : List ℕ) → get_or bs 0 0 ≡ 48 → AllDigits 10 (take 1 bs)
zero_digit [] e = tt
zero_digit (c ∷ cs) e = let l : digit_value c < 10 = rw e (lit< tt) in (l, tt)

pub ruleset digit_runs = (prefix_len-le-length, run_digits, zero_digit)

digits_ascii : (ds : List ℕ) → AllDigits 10 ds → IsAscii ds
digits_ascii [] h i = lit< tt
digits_ascii (d ∷ ds) h zero = omega (arith, (digit_from_value d h.0).1)
digits_ascii (d ∷ ds) h (suc i) = digits_ascii ds h.1 i

signed_ascii : (text : List ℕ) (b : Bool) → is_negative text ≡ b → AllDigits 10 (drop (cond b 1 0) text) → IsAscii text
signed_ascii text false e h i = digits_ascii text h i
signed_ascii [] true e h i = lit< tt
signed_ascii (c ∷ cs) true e h zero = omega (arith, eqb-true c 45 e)
signed_ascii (c ∷ cs) true e h (suc i) = digits_ascii cs h i

-- a number is ASCII
pub number_ascii : (text : List ℕ) → AllDigits 10 (drop (sign_len text) text) → IsAscii text
number_ascii text h i = signed_ascii text (is_negative text) refl h i
