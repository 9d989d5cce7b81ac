-- An environment as the list of the variables with their values.
use Rattle.std.proofs.Common.{◌≡◌, List, [], ◌∷◌, map, refl, ap}
use Rattle.schema_types.specs.gql_ast.declared.variable.VariableDef.{VariableDef}
use Rattle.schema_types.specs.gql_plain.Order.{member_at}
use Rattle.schema_types.specs.Environments.{Values, environment, value_or_default, with_pair}
use Rattle.constant_values.specs.Listed.{first_of_each, given_or_default}

pub environment-listed : (ds : List VariableDef) (given : Values) → environment ds given ≡ first_of_each (map (given_or_default given) ds)
environment-listed [] given = refl
environment-listed (d ∷ ds) given = ap (with_pair d.name (value_or_default (member_at given d.name) d.default)) (environment-listed ds given)

pub ruleset listed = (environment-listed)
