-- What a string says (GraphQL, October 2021, section 2.9.4).
use Rattle.std.specs.Prelude.{◌≡◌, Ok, ℕ, zero, suc, ◌+◌, ◌-◌, Bool, cond, ◌||◌, ◌==◌, min, Option, Some, None, unwrap_or, List, [], ◌∷◌, ◌++◌, map, length, take, drop, slice_index, encode_utf8}
use Rattle.std.specs.List.{prefix_len, suffix_len}
use Rattle.gql_lex.specs.declared.tokens.TokenKind.{TokenKind}
use Rattle.gql_lex.specs.declared.tokens.TokenKind.TheVariants.{Punct, Name, Int, Text, Block}
use Rattle.gql_lex.specs.Characters.{tab, line_feed, carriage_return, space, quote, backslash, is_three_quotes, is_escaped_quotes}
use Rattle.gql_lex.specs.Heads.{IsToken}
use Rattle.gql_lex.specs.Lines.{lines}
use Rattle.gql_lex.specs.Strings.{code_of_hex, text_end, block_end}

-- ---- Text

-- what a simple escape stands for
abbrev pub simple_escape : ℕ → ℕ
simple_escape c =
    cond (c == 98) 8 (cond (c == 102) 12 (cond (c == 110) line_feed (cond (c == 114) carriage_return (cond (c == 116) tab c))))

-- the character that an escape stands for, and how many bytes it has, behind its backslash
abbrev pub escape_char : List ℕ → ℕ
escape_char cs = cond (slice_index cs 0 == 117) (code_of_hex (drop 1 cs)) (simple_escape (slice_index cs 0))

abbrev pub escaped_len : List ℕ → ℕ
escaped_len cs = cond (slice_index cs 0 == 117) 5 1

abbrev pub text_value_step : ℕ → List ℕ → (ℕ → List ℕ) → List ℕ
text_value_step c cs rest =
    cond (c == quote) [] (cond (c == backslash) (encode_utf8 (escape_char cs) ++ rest (escaped_len cs)) (c ∷ rest 0))

-- the value of a Text, behind its first quote; the first `inside` bytes belong to an escape
unfoldable pub text_value : (inside : ℕ) → List ℕ → List ℕ
text_value n [] = []
text_value (suc n) (c ∷ cs) = text_value n cs
text_value zero (c ∷ cs) = text_value_step c cs (λ n. text_value n cs)

-- the bytes are the rest of a Text, up to its last quote
abbrev pub IsTextRest : List ℕ → Type 0
IsTextRest bs = text_end 0 bs ≡ Ok (length bs)

-- the bytes are the rest of a Block, up to its last quote
abbrev pub IsBlockRest : List ℕ → Type 0
IsBlockRest bs = block_end 0 bs ≡ Ok (length bs)

-- how many bytes stand in front of the first place that stops
abbrev pub run_before : (List ℕ → Bool) → List ℕ → ℕ
run_before stops [] = 0
run_before stops (c ∷ cs) = cond (stops (c ∷ cs)) 0 (1 + run_before stops cs)

-- a Text has a quote or a backslash here, and a Block `"""` or `\"""`
abbrev pub stops_text : List ℕ → Bool
stops_text bs = (slice_index bs 0 == quote) || (slice_index bs 0 == backslash)

abbrev pub stops_block : List ℕ → Bool
stops_block bs = is_three_quotes bs || is_escaped_quotes bs

-- ---- Block

abbrev pub raw_step : ℕ → List ℕ → (ℕ → List ℕ) → List ℕ
raw_step c cs rest =
    cond (is_three_quotes (c ∷ cs)) [] (cond (is_escaped_quotes (c ∷ cs)) (quote ∷ quote ∷ quote ∷ rest 3) (c ∷ rest 0))

-- the raw text of a Block, behind its first three quotes: `\"""` gives `"""`
unfoldable pub raw_text : (inside : ℕ) → List ℕ → List ℕ
raw_text n [] = []
raw_text (suc n) (c ∷ cs) = raw_text n cs
raw_text zero (c ∷ cs) = raw_step c cs (λ n. raw_text n cs)

-- how many spaces and tabs a line begins with, and whether it has no other character
abbrev pub is_indent : ℕ → Bool
is_indent c = (c == space) || (c == tab)

abbrev pub indent : List ℕ → ℕ
indent line = prefix_len is_indent line

abbrev pub is_blank_line : List ℕ → Bool
is_blank_line line = indent line == length line

abbrev pub least : ℕ → Option ℕ → ℕ
least n None = n
least n (Some m) = min n m

abbrev pub narrow : List ℕ → Option ℕ → Option ℕ
narrow l most = cond (is_blank_line l) most (Some (least (indent l) most))

-- the least indent of the lines that have another character, where there is such a line
abbrev pub least_indent : List (List ℕ) → Option ℕ
least_indent [] = None
least_indent (l ∷ ls) = narrow l (least_indent ls)

abbrev pub common_indent : List (List ℕ) → ℕ
common_indent ls = unwrap_or (least_indent ls) 0

-- the lines, each but the first without the indent that these have in common
abbrev pub unindent : List (List ℕ) → List (List ℕ)
unindent [] = []
unindent (l ∷ ls) = l ∷ map (λ m. drop (common_indent ls) m) ls

-- the lines without those at both ends that have only spaces and tabs
abbrev pub without_blank_start : List (List ℕ) → List (List ℕ)
without_blank_start ls = drop (prefix_len is_blank_line ls) ls

abbrev pub without_blank_end : List (List ℕ) → List (List ℕ)
without_blank_end ls = take (length ls - suffix_len is_blank_line ls) ls

abbrev pub join_lines : List (List ℕ) → List ℕ
join_lines [] = []
join_lines (l ∷ []) = l
join_lines (l ∷ m ∷ ms) = l ++ line_feed ∷ join_lines (m ∷ ms)

-- the value of a Block, of its raw text
unfoldable pub block_value : List ℕ → List ℕ
block_value raw = join_lines (without_blank_end (without_blank_start (unindent (lines raw))))

-- ---- what a Text or a Block says

abbrev pub string_value_of : TokenKind → List ℕ → List ℕ
string_value_of Punct text = []
string_value_of Name text = []
string_value_of Int text = []
string_value_of Text text = text_value 0 (drop 1 text)
string_value_of Block text = block_value (raw_text 0 (drop 3 text))

-- the text is that of a Text or a Block, without fault
abbrev pub IsString : TokenKind → List ℕ → Type 0
IsString Punct text = ⊥
IsString Name text = ⊥
IsString Int text = ⊥
IsString Text text = IsToken Text text
IsString Block text = IsToken Block text
