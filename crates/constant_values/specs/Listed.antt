-- Pairs of a list in byte order, one of each key.
use Rattle.std.specs.Prelude.{ℕ, List, [], ◌∷◌}
use Rattle.schema_types.specs.gql_ast.declared.variable.VariableDef.{VariableDef}
use Rattle.schema_types.specs.gql_plain.Order.{member_at}
use Rattle.schema_types.specs.gql_plain.Tree.{Tree}
use Rattle.schema_types.specs.Environments.{Values, with_pair, with_new_pair, value_or_default}

-- the first pair of a key counts
abbrev pub first_of_each : List (List ℕ × Tree) → Values
first_of_each [] = []
first_of_each (p ∷ ps) = with_pair p.0 p.1 (first_of_each ps)

-- the last pair of a key counts
abbrev pub last_of_each : List (List ℕ × Tree) → Values
last_of_each [] = []
last_of_each (p ∷ ps) = with_new_pair p.0 p.1 (last_of_each ps)

-- a variable with the value that is given, else its default, else null
abbrev pub given_or_default : (given : Values) → VariableDef → List ℕ × Tree
given_or_default given d = (d.name, value_or_default (member_at given d.name) d.default)
