-- What the bytes of a text begin with: ignored text, a token, or a fault (GraphQL, October 2021, sections 2.1 and 2.9).
use Rattle.std.specs.Prelude.{◌≡◌, ◌<◌, ◌⊎◌, ℕ, ◌+◌, ◌-◌, cond, ◌||◌, ◌==◌, List, length, take, drop, slice_index, Result, Ok, Err}
use Rattle.std.specs.List.{prefix_len}
use Rattle.gql_lex.specs.declared.tokens.TokenKind.{TokenKind}
use Rattle.gql_lex.specs.declared.tokens.TokenKind.TheVariants.{Punct, Name, Int, Text, Block}
use Rattle.gql_lex.specs.declared.tokens.Head.{Head}
use Rattle.gql_lex.specs.declared.tokens.Head.TheVariants.{Ignored, Found, Wrong}
use Rattle.gql_lex.specs.Characters.{quote, number_sign, is_line_end, may_stand, is_punctuator, is_ignored, is_mark, is_spread, is_number_start, is_float_mark, is_two_quotes}
use Rattle.gql_plain.specs.Names.{is_name_start, is_name_byte}
use Rattle.gql_lex.specs.Numbers.{sign_len, digits_len, int_len, is_in_i64}
use Rattle.gql_lex.specs.Strings.{bad_char, bad_number, float_literal, text_end, block_end}

-- a comment, behind its `#`: it goes to the end of the line, and each character in it may stand there
unfoldable pub comment : List ℕ → Head
comment cs =
    let n = prefix_len may_stand cs in
    cond ((length cs == n) || is_line_end (slice_index cs n)) (Ignored n) (Wrong bad_char (1 + n))

-- an Int, and the bytes behind it: no digit, letter, `_` or `.` follows
unfoldable pub int_before : List ℕ → List ℕ → Head
int_before text rest =
    let c = slice_index rest 0 in
    cond (is_float_mark c) (Wrong float_literal 0)
    (cond (is_name_byte c) (Wrong bad_number 0)
    (cond (is_in_i64 text) (Found Int (length text - 1)) (Wrong bad_number 0)))

-- what begins with `-` or a digit
unfoldable pub number : List ℕ → Head
number bs =
    cond (digits_len (drop (sign_len bs) bs) == 0) (Wrong bad_number 0) (int_before (take (int_len bs) bs) (drop (int_len bs) bs))

-- a string with `more` bytes behind its first quote, or its fault, which counts at that quote
abbrev pub string_head : TokenKind → (more : ℕ) → Result ℕ ℕ → Head
string_head kind more (Ok n) = Found kind (more + n)
string_head kind more (Err code) = Wrong code 0

-- a Block or a Text, behind its first quote
unfoldable pub string : List ℕ → Head
string cs =
    cond (is_two_quotes cs)
    (string_head Block 2 (block_end 0 (drop 2 cs)))
    (string_head Text 0 (text_end 0 cs))

-- what the bytes begin with
unfoldable pub head : List ℕ → Head
head bs =
    cond (is_ignored (slice_index bs 0)) (Ignored 0)
    (cond (is_mark bs) (Ignored 2)
    (cond (slice_index bs 0 == number_sign) (comment (drop 1 bs))
    (cond (is_punctuator (slice_index bs 0)) (Found Punct 0)
    (cond (is_spread bs) (Found Punct 2)
    (cond (is_name_start (slice_index bs 0)) (Found Name (prefix_len is_name_byte (drop 1 bs)))
    (cond (is_number_start (slice_index bs 0)) (number bs)
    (cond (slice_index bs 0 == quote) (string (drop 1 bs))
    (Wrong bad_char 0))))))))

-- the text is one whole token of the kind
unfoldable pub IsToken : TokenKind → List ℕ → Type 0
IsToken kind text = head text ≡ Found kind (length text - 1)

-- what begins at the offset lies within the text; a token begins and ends with an ASCII byte, and a fault lies at the offset
-- or at an ASCII byte
abbrev pub IsSoundAt : List ℕ → (at : ℕ) → Head → Type 0
IsSoundAt bs at (Ignored n) = at + n < length bs
IsSoundAt bs at (Found kind n) = (at + n < length bs) × (slice_index bs at < 128) × (slice_index bs (at + n) < 128)
IsSoundAt bs at (Wrong code n) = (at + n < length bs) × ((n ≡ 0) ⊎ (slice_index bs (at + n) < 128))
