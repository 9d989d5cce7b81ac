-- How the two fittings go together (GraphQL, October 2021, sections 3.12, 5.6.1 and 5.8.5).
use Rattle.std.specs.Prelude.{◌≡◌, Bool, true, false, ◌&&◌}
use Rattle.schema_types.specs.gql_ast.Ty.{Ty}
use Rattle.schema_types.specs.gql_ast.Value.{Val, Vals, Members, variable, int, text, truth, null, enum, list, object, no_vals, val, no_members, member}
use Rattle.schema_types.specs.gql_plain.Tree.{Tree}
use Rattle.schema_types.specs.Environments.{Values, evaluation, fits}
use Rattle.schema_types.specs.schema_tables.Fits.{literal_fits, types_agree}
use Rattle.schema_types.specs.schema_tables.Types.{Defs}

-- whether no variable stands in a value
abbrev mutual
  pub is_constant : Val → Bool
  is_constant (variable n) = false
  is_constant (int n) = true
  is_constant (text s) = true
  is_constant (truth b) = true
  is_constant null = true
  is_constant (enum n) = true
  is_constant (list vs) = are_constant vs
  is_constant (object ms) = have_constants ms

  pub are_constant : Vals → Bool
  are_constant no_vals = true
  are_constant (val v vs) = is_constant v && are_constant vs

  pub have_constants : Members → Bool
  have_constants no_members = true
  have_constants (member n v ms) = is_constant v && have_constants ms

-- a literal without variables that fits a type is a value that fits it
abbrev pub LiteralsFit : Type 0
LiteralsFit = (defs : Defs) (env : Values) (v : Val) (t : Ty) → is_constant v ≡ true → literal_fits defs v t ≡ true → fits defs (evaluation env v) t ≡ true

-- where the type of a variable agrees with that of its place, what fits the one fits the other
abbrev pub AgreeingTypesFit : Type 0
AgreeingTypesFit = (defs : Defs) (x : Tree) (variable place : Ty) → types_agree variable place ≡ true → fits defs x variable ≡ true → fits defs x place ≡ true
