-- The lines of a text: they end at LF, CR or CR LF (GraphQL, October 2021, section 2.1.2).
use Rattle.std.specs.Prelude.{ℕ, zero, suc, ◌+◌, Bool, cond, not, ◌&&◌, ◌||◌, ◌==◌, nat_lt, List, [], ◌∷◌, map, length, chars, slice_index}
use Rattle.std.specs.List.{between, prefix_len}
use Rattle.gql_lex.specs.declared.tokens.Place.{Place}
use Rattle.gql_lex.specs.Characters.{line_feed, carriage_return, is_line_end}
use denote.Bor.{Bor}

-- whether a line ends with the byte c, before cs: LF, and CR without LF behind it
abbrev pub ends_line : ℕ → List ℕ → Bool
ends_line c cs = (c == line_feed) || ((c == carriage_return) && not (slice_index cs 0 == line_feed))

abbrev pub onto_first : ℕ → List (List ℕ) → List (List ℕ)
onto_first c [] = (c ∷ []) ∷ []
onto_first c (l ∷ ls) = (c ∷ l) ∷ ls

-- the lines, without their ends
unfoldable pub lines : List ℕ → List (List ℕ)
lines [] = [] ∷ []
lines (c ∷ cs) = cond (ends_line c cs) ([] ∷ lines cs) (cond (c == carriage_return) (lines cs) (onto_first c (lines cs)))

-- how many lines end within the first n bytes
unfoldable pub ended_lines : ℕ → List ℕ → ℕ
ended_lines zero bs = 0
ended_lines (suc n) [] = 0
ended_lines (suc n) (c ∷ cs) = cond (ends_line c cs) 1 0 + ended_lines n cs

-- where the line begins on which the first n bytes end
unfoldable pub line_start : ℕ → List ℕ → ℕ
line_start zero bs = 0
line_start (suc n) [] = 0
line_start (suc n) (c ∷ cs) = cond (nat_lt 0 (ended_lines (suc n) (c ∷ cs))) (1 + line_start n cs) 0

-- the place of the offset `at`: both numbers count from 1, and the column counts characters
abbrev pub place_at : List ℕ → (at : ℕ) → Place
place_at text at = record {
  line = 1 + ended_lines at text;
  column = 1 + length (chars (between (line_start at text) at text));
}

-- ---- the first line: how many bytes it has, and how many the end has that these bytes begin with

abbrev pub is_in_line : ℕ → Bool
is_in_line c = not (is_line_end c)

abbrev pub line_len : List ℕ → ℕ
line_len bs = prefix_len is_in_line bs

abbrev pub is_pair : List ℕ → Bool
is_pair bs = (slice_index bs 0 == carriage_return) && (slice_index bs 1 == line_feed)

abbrev pub end_len : List ℕ → ℕ
end_len bs = cond (is_pair bs) 2 (cond (is_line_end (slice_index bs 0)) 1 0)

-- the texts that these references point to
abbrev pub texts : List (Bor (List ℕ)) → List (List ℕ)
texts ls = map (λ (l : Bor (List ℕ)). l.now) ls
