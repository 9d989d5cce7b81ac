-- Rows that are being written.
use Rattle.std.specs.Prelude.{◌≡◌, ℕ, List, [], ◌∷◌, ◌++◌}
use Rattle.std.specs.Str.{IsUtf8}
use Rattle.store_model.specs.gql_plain.ToJson.{tree_tokens}
use Rattle.store_model.specs.gql_plain.Tree.{Tree}
use Rattle.json.specs.Token.{Token, begin_array}
use Rattle.json.specs.Written.{Written}
use Rattle.image_text.specs.Lines.{Row, text_of_rows}

-- the tokens of the items of a row, its end apart
abbrev pub row_front : Row → List Token
row_front [] = []
row_front (t ∷ ts) = tree_tokens t ++ row_front ts

-- behind these bytes a row is begun, with these items so far
pub record IsRow (before : List ℕ) (row : Row) (w : Written) : Type 0 where
  pub begun : w.before ≡ before
  pub is : w.tokens ≡ begin_array ∷ row_front row

-- an item is put to the end
pub record Puts (t : Tree) (old new : Written) : Type 0 where
  pub begun : new.before ≡ old.before
  pub tokens : new.tokens ≡ old.tokens ++ tree_tokens t

-- the lines of these rows are put to the end, and what was UTF-8 stays so
pub record Adds (rows : List Row) (old new : List ℕ) : Type 0 where
  pub text : new ≡ old ++ text_of_rows rows
  pub utf8 : IsUtf8 old → IsUtf8 new
