-- The tokens of a text, in order, and the fault that it has where it has one.
use Rattle.std.specs.Prelude.{ℕ, zero, suc, ◌+◌, List, [], ◌∷◌, take}
use Rattle.gql_lex.specs.declared.tokens.TokenKind.{TokenKind}
use Rattle.gql_lex.specs.declared.tokens.Head.{Head}
use Rattle.gql_lex.specs.declared.tokens.Head.TheVariants.{Ignored, Found, Wrong}
use Rattle.gql_lex.specs.Heads.{head}

-- a token: its kind, its bytes, and the offsets of its first byte and of the byte behind it
pub record Piece : Type 0 where
  pub kind : TokenKind
  pub text : List ℕ
  pub start : ℕ
  pub end : ℕ

-- only ignored text is left; or the fault of this code at this offset is next; or a token is next, and then the rest
pub data Source : Type 0 where
  ended : Source
  faulty : (code at : ℕ) → Source
  token : (next : Piece) (rest : Source) → Source

abbrev pub read_head : Head → (at : ℕ) → List ℕ → (ℕ → Source) → Source
read_head (Ignored more) at bs rest = rest more
read_head (Found kind more) at bs rest =
    token (record { kind = kind; text = take (1 + more) bs; start = at; end = at + (1 + more) }) (rest more)
read_head (Wrong code ahead) at bs rest = faulty code (at + ahead)

-- the bytes from the offset `at` on; the first `inside` of them belong to what was read already
unfoldable pub read : (inside at : ℕ) → List ℕ → Source
read n at [] = ended
read (suc n) at (c ∷ cs) = read n (at + 1) cs
read zero at (c ∷ cs) = read_head (head (c ∷ cs)) at (c ∷ cs) (λ n. read n (at + 1) cs)

-- what the bytes from the offset `at` on hold
abbrev pub lex_from : (at : ℕ) → List ℕ → Source
lex_from at bs = read 0 at bs
