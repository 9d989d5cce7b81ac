-- What the tokens of a text say of the text.
use Rattle.std.specs.Prelude.{◌≡◌, ℕ, ◌<◌, ◌≤◌, List, length, IsCharBoundary}
use Rattle.std.specs.List.{between}
use Rattle.gql_lex.specs.Heads.{IsToken}
use Rattle.gql_lex.specs.Sources.{Piece, Source, ended, faulty, token, lex_from}

-- only ignored text
abbrev pub IsIgnored : List ℕ → Type 0
IsIgnored bs = lex_from 0 bs ≡ ended

-- a token stands in the text at its offsets, with only ignored text between it and the offset `from`, and is one whole token
pub record StandsAt (whole : List ℕ) (from : ℕ) (p : Piece) : Type 0 where
  pub behind : from ≤ p.start
  pub gap : IsIgnored (between from p.start whole)
  pub some : p.start < p.end
  pub within : p.end ≤ length whole
  pub text : p.text ≡ between p.start p.end whole
  pub form : IsToken p.kind p.text
  pub start : IsCharBoundary whole p.start
  pub end : IsCharBoundary whole p.end

-- each token stands behind the one before, and behind the last there is only ignored text, or the fault, which lies at a
-- character's start
abbrev pub Describes : List ℕ → (from : ℕ) → Source → Type 0
Describes text from ended = IsIgnored (between from (length text) text)
Describes text from (faulty code at) = (from ≤ at) × (at < length text) × IsCharBoundary text at
Describes text from (token p rest) = StandsAt text from p × Describes text p.end rest
