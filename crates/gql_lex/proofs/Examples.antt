-- What the definitions say of single texts.
use Rattle.std.proofs.Common.{◌≡◌, ℕ, List, [], ◌∷◌, ◌++◌, Some, codes, refl, pos, negsuc}
use Rattle.gql_lex.specs.declared.tokens.TokenKind.TheVariants.{Block}
use Rattle.gql_lex.specs.Characters.{quote}
use Rattle.gql_lex.specs.Heads.{comment, int_before, number, string, head}
use Rattle.gql_lex.specs.Lines.{lines, ended_lines, line_start, place_at}
use Rattle.gql_lex.specs.Sources.{ended, faulty, token, lex_from, read}
use Rattle.gql_lex.specs.Strings.{escape_len, text_end, block_end}
use Rattle.gql_lex.specs.Toks.{tokens_of, open_brace, close_brace, name, int, text, dollar, spread}
use Rattle.gql_lex.specs.Values.{text_value, raw_text, block_value}
use Rattle.std.specs.Str.{chars}
use Rattle.std.specs.Char.{encode_utf8}

-- a text in quotes, and one in three
in_quotes : List ℕ → List ℕ
in_quotes bs = quote ∷ bs ++ quote ∷ []

ignored_text : lex_from 0 (239 ∷ 187 ∷ 191 ∷ codes " ,# a \"comment\"" ++ 10 ∷ 13 ∷ 9 ∷ []) ≡ ended
unfolding read head comment
ignored_text = refl

three_tokens : tokens_of (codes "{ a12 -0}") ≡ Some (open_brace ∷ name (codes "a12") ∷ int (pos 0) ∷ close_brace ∷ [])
unfolding read head number int_before
three_tokens = refl

spread_then_name : tokens_of (codes "...on$") ≡ Some (spread ∷ name (codes "on") ∷ dollar ∷ [])
unfolding read head
spread_then_name = refl

two_full_stops : lex_from 0 (codes " ..") ≡ faulty 1 1
unfolding read head
two_full_stops = refl

control_in_comment : lex_from 0 (codes "#ab" ++ 1 ∷ 10 ∷ []) ≡ faulty 1 3
unfolding read head comment
control_in_comment = refl

greatest_int : tokens_of (codes "9223372036854775807") ≡ Some (int (pos 9223372036854775807) ∷ [])
unfolding read head number int_before
greatest_int = refl

least_int : tokens_of (codes "-9223372036854775808") ≡ Some (int (negsuc 9223372036854775807) ∷ [])
unfolding read head number int_before
least_int = refl

too_great_int : lex_from 0 (codes "9223372036854775808") ≡ faulty 2 0
unfolding read head number int_before
too_great_int = refl

too_small_int : lex_from 0 (codes "-9223372036854775809") ≡ faulty 2 0
unfolding read head number int_before
too_small_int = refl

great_float : lex_from 0 (codes "9223372036854775808.0") ≡ faulty 3 0
unfolding read head number int_before
great_float = refl

digit_after_zero : lex_from 0 (codes "00") ≡ faulty 2 0
unfolding read head number int_before
digit_after_zero = refl

exponent_after_zero : lex_from 0 (codes "-0e1") ≡ faulty 3 0
unfolding read head number int_before
exponent_after_zero = refl

minus_alone : lex_from 0 (codes ", -b") ≡ faulty 2 2
unfolding read head number
minus_alone = refl

one_text : tokens_of (codes "\"a\\n\\u00e9\\\"\"\"\"") ≡ Some (text (codes "a" ++ 10 ∷ 195 ∷ 169 ∷ quote ∷ []) ∷ text [] ∷ [])
unfolding read head string text_end escape_len text_value encode_utf8
one_text = refl

surrogate_first : lex_from 0 (codes "\"\\uD800\\q\"") ≡ faulty 5 0
unfolding read head string text_end escape_len
surrogate_first = refl

other_escape_first : lex_from 0 (codes " \"\\q\\uD800\"") ≡ faulty 4 1
unfolding read head string text_end escape_len
other_escape_first = refl

not_ended : lex_from 0 (codes "\"a" ++ 10 ∷ codes "\"") ≡ faulty 4 0
unfolding read head string text_end
not_ended = refl

one_block : tokens_of (codes "\"\"\"" ++ 10 ∷ codes "    Hello," ++ 10 ∷ codes "      World!" ++ 13 ∷ 10 ∷ 13 ∷ codes "    \\\"\"\"" ++ 10 ∷ codes "  \"\"\"")
    ≡ Some (text (codes "Hello," ++ 10 ∷ codes "  World!" ++ 10 ∷ 10 ∷ codes "\"\"\"") ∷ [])
unfolding read head string block_end block_value raw_text lines
one_block = refl

fourth_quote : lex_from 0 (codes "\"\"\"a\"\"\"\"") ≡ token (record { kind = Block; text = codes "\"\"\"a\"\"\""; start = 0; end = 7 }) (faulty 4 7)
unfolding read head string text_end block_end
fourth_quote = refl

place_behind_mark : place_at (239 ∷ 187 ∷ 191 ∷ codes "a" ++ 13 ∷ 10 ∷ 195 ∷ 169 ∷ codes "b") 8 ≡ record { line = 2; column = 2 }
unfolding ended_lines line_start chars
place_behind_mark = refl

place_of_line_feed : place_at (239 ∷ 187 ∷ 191 ∷ 13 ∷ 10 ∷ []) 4 ≡ record { line = 1; column = 3 }
unfolding ended_lines line_start chars
place_of_line_feed = refl

place_at_end : place_at (13 ∷ 13 ∷ 10 ∷ 10 ∷ []) 4 ≡ record { line = 4; column = 1 }
unfolding ended_lines line_start chars
place_at_end = refl
