-- The tokens as a grammar reads them: punctuators by name, and values in place of texts.
use Rattle.std.specs.Prelude.{ℕ, cond, ◌==◌, List, [], ◌∷◌, slice_index, ℤ, Option, Some, None, option_map}
use Rattle.gql_lex.specs.declared.tokens.TokenKind.{TokenKind}
use Rattle.gql_lex.specs.declared.tokens.TokenKind.TheVariants.{Punct, Name, Int, Text, Block}
use Rattle.gql_lex.specs.Numbers.{int_value}
use Rattle.gql_lex.specs.Sources.{Piece, Source, ended, faulty, token, lex_from}
use Rattle.gql_lex.specs.Values.{string_value_of}

-- `! $ & ( ) ... : = @ [ ] { | }`, then Name with its bytes, Int with its value, and Text and Block with what they say
pub data Tok : Type 0 where
  bang : Tok
  dollar : Tok
  ampersand : Tok
  open_paren : Tok
  close_paren : Tok
  spread : Tok
  colon : Tok
  equals : Tok
  at_sign : Tok
  open_bracket : Tok
  close_bracket : Tok
  open_brace : Tok
  bar : Tok
  close_brace : Tok
  name : List ℕ → Tok
  int : ℤ → Tok
  text : List ℕ → Tok

abbrev pub punctuator_of : ℕ → Tok
punctuator_of c =
    cond (c == 33) bang (cond (c == 36) dollar (cond (c == 38) ampersand (cond (c == 40) open_paren (cond (c == 41) close_paren
    (cond (c == 46) spread (cond (c == 58) colon (cond (c == 61) equals (cond (c == 64) at_sign (cond (c == 91) open_bracket
    (cond (c == 93) close_bracket (cond (c == 123) open_brace (cond (c == 124) bar close_brace))))))))))))

abbrev pub tok_of : TokenKind → List ℕ → Tok
tok_of Punct bs = punctuator_of (slice_index bs 0)
tok_of Name bs = name bs
tok_of Int bs = int (int_value bs)
tok_of Text bs = text (string_value_of Text bs)
tok_of Block bs = text (string_value_of Block bs)

abbrev pub tok_of_piece : Piece → Tok
tok_of_piece p = tok_of p.kind p.text

abbrev pub toks_of : Source → Option (List Tok)
toks_of ended = Some []
toks_of (faulty code at) = None
toks_of (token p rest) = option_map (λ ts. tok_of_piece p ∷ ts) (toks_of rest)

-- the tokens of a text that has no lexical fault
abbrev pub tokens_of : List ℕ → Option (List Tok)
tokens_of bs = toks_of (lex_from 0 bs)
