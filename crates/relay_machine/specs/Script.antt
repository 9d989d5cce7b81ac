-- The lines of a script.
use Rattle.std.specs.Prelude.{◌+◌, List, [], ◌∷◌, ◌++◌, map, take, Bool, ◌==◌, cond}
use Rattle.plan_ir.specs.store_record.Keys.{Text}
use Rattle.plan_ir.specs.gql_plain.Limits.{max_line}

-- a last part that no LF ends is a line where the script has ended and the part is not empty
abbrev pub last_line : Bool → Text → List Text
last_line ended [] = []
last_line ended (b ∷ part) = cond ended ((b ∷ part) ∷ []) []

-- the lines of the bytes, where this part of a line stands before them
abbrev pub lines_from : Text → Text → Bool → List Text
lines_from part [] ended = last_line ended part
lines_from part (b ∷ bytes) ended = cond (b == 10) (part ∷ lines_from [] bytes ended) (lines_from (part ++ b ∷ []) bytes ended)

-- the parts that end with LF, without it, and a last one
abbrev pub lines_of : Text → Bool → List Text
lines_of = lines_from []

-- what is looked at of each line: of a longer one as much as shows that it is too long
abbrev pub cut : List Text → List Text
cut lines = map (take (max_line + 1)) lines
