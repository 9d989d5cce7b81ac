-- The lines of the first part of a text, and the characters on its last one.
use Rattle.std.specs.Prelude.{◌≡◌, ℕ, ◌+◌, ◌-◌, ◌^◌, ◌<◌, ◌≤◌, List, length, chars, IsCharBoundary}
use Rattle.std.specs.List.{between}
use Rattle.gql_lex.specs.Lines.{ended_lines, line_start}

-- the line and the column of the offset in a text whose places fit 32 bits
pub record IsCounted (text : List ℕ) (at l c : ℕ) : Type 0 where
  pub short : length text < 2 ^ 32 - 1
  pub boundary : IsCharBoundary text at
  pub start : IsCharBoundary text (line_start at text)
  pub behind : line_start at text ≤ at
  pub line : l ≡ 1 + ended_lines at text
  pub column : c ≡ 1 + length (chars (between (line_start at text) at text))
  pub few : c ≤ 1 + at
