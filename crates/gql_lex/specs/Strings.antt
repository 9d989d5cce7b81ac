-- Where a string ends (GraphQL, October 2021, section 2.9.4). `Ok n`: with the first n of these bytes. `Err`: the fault,
-- the first from left to right. The first `inside` bytes belong to what was read already.
use Rattle.std.specs.Prelude.{◌≡◌, ◌<◌, ◌≤◌, Option, MatchOption, MatchResult, ℕ, zero, suc, ◌+◌, ◌*◌, Bool, cond, ◌&&◌, ◌||◌, ◌==◌, nat_lt, List, [], ◌∷◌, drop, slice_index, Result, Ok, Err}
use Rattle.std.specs.Char.{digit_value}
use Rattle.gql_lex.specs.Characters.{quote, backslash, may_stand, may_stand_in_block, is_three_quotes, is_escaped_quotes}
use Rattle.gql_plain.specs.Names.{is_within}

abbrev pub bad_char : ℕ
bad_char = 1

abbrev pub bad_number : ℕ
bad_number = 2

abbrev pub float_literal : ℕ
float_literal = 3

abbrev pub bad_string : ℕ
bad_string = 4

abbrev pub surrogate : ℕ
surrogate = 5

abbrev pub further : ℕ → Result ℕ ℕ → Result ℕ ℕ
further k (Ok n) = Ok (k + n)
further k (Err code) = Err code

abbrev pub and_then : Result ℕ ℕ → (ℕ → Result ℕ ℕ) → Result ℕ ℕ
and_then (Ok n) next = next n
and_then (Err code) next = Err code

-- ---- escapes: the bytes behind a backslash

-- `" \ / b f n r t`
abbrev pub is_simple_escape : ℕ → Bool
is_simple_escape c = (c == 34) || (c == 92) || (c == 47) || (c == 98) || (c == 102) || (c == 110) || (c == 114) || (c == 116)

abbrev pub is_hex : ℕ → Bool
is_hex c = nat_lt (digit_value c) 16

abbrev pub is_four_hex : List ℕ → Bool
is_four_hex bs = is_hex (slice_index bs 0) && is_hex (slice_index bs 1) && is_hex (slice_index bs 2) && is_hex (slice_index bs 3)

abbrev pub code_of_hex : List ℕ → ℕ
code_of_hex bs = ((digit_value (slice_index bs 0) * 16 + digit_value (slice_index bs 1)) * 16 + digit_value (slice_index bs 2)) * 16
    + digit_value (slice_index bs 3)

abbrev pub is_surrogate : ℕ → Bool
is_surrogate c = is_within 0xD800 0xDFFF c

-- how many bytes the escape has behind its backslash
unfoldable pub escape_len : List ℕ → Result ℕ ℕ
escape_len bs =
    cond (is_simple_escape (slice_index bs 0)) (Ok 1)
    (cond ((slice_index bs 0 == 117) && is_four_hex (drop 1 bs))
    (cond (is_surrogate (code_of_hex (drop 1 bs))) (Err surrogate) (Ok 5))
    (Err bad_string))

-- ---- a Text, behind its first quote

abbrev pub text_step : ℕ → List ℕ → (ℕ → Result ℕ ℕ) → Result ℕ ℕ
text_step c cs next =
    cond (c == quote) (Ok 1) (cond (c == backslash) (and_then (escape_len cs) next) (cond (may_stand c) (next 0) (Err bad_string)))

unfoldable pub text_end : (inside : ℕ) → List ℕ → Result ℕ ℕ
text_end n [] = Err bad_string
text_end (suc n) (c ∷ cs) = further 1 (text_end n cs)
text_end zero (c ∷ cs) = text_step c cs (λ n. further 1 (text_end n cs))

-- ---- a Block, behind its first three quotes

abbrev pub block_step : ℕ → List ℕ → (ℕ → Result ℕ ℕ) → Result ℕ ℕ
block_step c cs next =
    cond (is_three_quotes (c ∷ cs)) (Ok 3)
    (cond (is_escaped_quotes (c ∷ cs)) (next 3) (cond (may_stand_in_block c) (next 0) (Err bad_string)))

unfoldable pub block_end : (inside : ℕ) → List ℕ → Result ℕ ℕ
block_end n [] = Err bad_string
block_end (suc n) (c ∷ cs) = further 1 (block_end n cs)
block_end zero (c ∷ cs) = block_step c cs (λ n. further 1 (block_end n cs))

-- ---- one step: what a string's end says of its bytes, where a step reads the first n of them, or the string's last n

abbrev pub GoesOn : (List ℕ → Result ℕ ℕ) → List ℕ → ℕ → Type 0
GoesOn end bs n = (0 < n) × (n ≤ 6) × (end bs ≡ further n (end (drop n bs)))

abbrev pub IsStep : (List ℕ → Result ℕ ℕ) → (last : ℕ) → List ℕ → Result (Option ℕ) ℕ → Type 0
IsStep end last bs step = MatchResult step (λ more. MatchOption more (end bs ≡ Ok last) (GoesOn end bs)) (λ code. end bs ≡ Err code)
