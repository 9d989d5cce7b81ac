-- The members of objects, as they are put.
use Rattle.std.specs.Prelude.{List, [], ◌∷◌, Option, Some, None}
use Rattle.plan_ir.specs.gql_plain.Tree.{Tree}
use Rattle.plan_ir.specs.store_model.Walks.{Shown, with_value}
use Rattle.plan_ir.specs.store_record.Keys.{Text}

-- pairs put onto members, of those of one key the first one counts
abbrev pub put_all : List (Text × Tree) → Shown → Shown
put_all [] end = end
put_all (p ∷ ps) end = with_value p.0 p.1 (put_all ps end)

-- a value that is found, and then the others
abbrev pub found_before : Text → Option Tree → List (Text × Tree) → List (Text × Tree)
found_before key None ps = ps
found_before key (Some t) ps = (key, t) ∷ ps
