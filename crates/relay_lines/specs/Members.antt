-- Members of an object, as they are written one after the other.
use Rattle.std.specs.Prelude.{ℕ, List, [], ◌∷◌, ◌++◌, map, codes}
use Rattle.plan_ir.specs.gql_plain.ToJson.{compact, tree_tokens}
use Rattle.plan_ir.specs.gql_plain.Tree.{Tree, truth, text, list, trees_of}
use Rattle.json.specs.Token as token
use Rattle.json.specs.Token.{Token}
use Rattle.relay_machine.specs.Printed.{line, number}
use Rattle.relay_machine.specs.Refusals.{Refusal, code_of, name_of}
use Rattle.plan_ir.specs.store_model.Walks.{Reading, shown_object}
use Rattle.plan_ir.specs.store_record.Keys.{Text}

-- the tokens of one member
abbrev pub member_tokens : Text → Tree → List Token
member_tokens key value = token.key key ∷ tree_tokens value

-- the line of a refusal, where it has these further keys
abbrev pub refused_with : (n : ℕ) → Refusal → (keys : List (Text × Tree)) → Text
refused_with n r keys = line ((codes "code", number (code_of r)) ∷ (codes "error", text (name_of r)) ∷ (codes "n", number n) ∷ keys)

-- the line of members that stand in byte order of their keys
abbrev pub ordered_line : List (Text × Tree) → Text
ordered_line members = compact (shown_object members) ++ 10 ∷ []

-- the members of a line that shows what a read gives; `of` says of which event or watch
abbrev pub shown_members : (n : ℕ) → (of : Text × Tree) → Reading → List (Text × Tree)
shown_members n of r =
    (codes "data", r.value) ∷ (codes "missing", truth r.missing) ∷ (codes "n", number n) ∷ of ∷ (codes "seen", list (trees_of (map text r.seen))) ∷ []
