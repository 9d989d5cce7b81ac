-- How many nodes the trees of the language have: each value, argument, directive and type is one, and so is each name that
-- is written in it.
use Rattle.std.specs.Prelude.{ℕ, ◌+◌, List, [], ◌∷◌, Option, Some, None}
use Rattle.gql_ast.specs.Value.{Val, Vals, Members, variable, int, text, truth, null, enum, list, object, no_vals, val, no_members, member, members_of}
use Rattle.gql_ast.specs.ValueView.{value_of}
use Rattle.gql_ast.specs.Ty as ty
use Rattle.gql_ast.specs.Ty.{Ty}
use Rattle.gql_ast.specs.declared.directive.Directive.{Directive}
use Rattle.gql_ast.specs.declared.value.ValueTree.{ValueTree}

-- a variable and an enum value bear a name; a field of an object does too
abbrev mutual
  pub value_nodes : Val → ℕ
  value_nodes (variable n) = 2
  value_nodes (int n) = 1
  value_nodes (text t) = 1
  value_nodes (truth b) = 1
  value_nodes null = 1
  value_nodes (enum n) = 2
  value_nodes (list vs) = 1 + values_nodes vs
  value_nodes (object ms) = 1 + members_nodes ms

  pub values_nodes : Vals → ℕ
  values_nodes no_vals = 0
  values_nodes (val v vs) = value_nodes v + values_nodes vs

  pub members_nodes : Members → ℕ
  members_nodes no_members = 0
  members_nodes (member n v ms) = 2 + value_nodes v + members_nodes ms

-- none, or a name
abbrev pub name_nodes : Option (List ℕ) → ℕ
name_nodes None = 0
name_nodes (Some n) = 1

abbrev pub arguments_nodes : List (List ℕ × Val) → ℕ
arguments_nodes xs = members_nodes (members_of xs)

abbrev pub directives_nodes : List Directive → ℕ
directives_nodes [] = 0
directives_nodes (d ∷ ds) = 2 + arguments_nodes d.arguments + directives_nodes ds

abbrev pub type_nodes : Ty → ℕ
type_nodes (ty.named n) = 2
type_nodes (ty.list t) = 1 + type_nodes t
type_nodes (ty.non_null t) = 1 + type_nodes t

abbrev pub default_nodes : Option ValueTree → ℕ
default_nodes None = 0
default_nodes (Some v) = value_nodes (value_of v)
