-- The values that the trees stand for.
use Rattle.std.specs.Prelude.{ℕ, List}
use Rattle.gql_ast.specs.declared.value.ValueTree.{ValueTree}
use Rattle.gql_ast.specs.declared.value.ValueTree.TheVariants.{Variable, Int, Text, Bool, Null, Enum, List as Listed, Object}
use Rattle.gql_ast.specs.declared.value.Argument.{Argument}
use Rattle.gql_ast.specs.Value.{Val, variable, int, text, truth, null, enum, list, object, vals_of, members_of}

abbrev pub value_of : ValueTree → Val
value_of (Variable n) = variable n
value_of (Int n) = int n
value_of (Text t) = text t
value_of (Bool b) = truth b
value_of Null = null
value_of (Enum n) = enum n
value_of (Listed vs) = list (vals_of vs)
value_of (Object ms) = object (members_of ms)

-- an argument is its name and its value
abbrev pub argument_of : Argument → List ℕ × Val
argument_of a = (a.name, value_of a.value)
