use Rattle.std.proofs.Common.{◌≡◌, map, take}
use Rattle.schema_types.specs.gql_plain.Shown.{shown_members}
use Rattle.schema_values.proofs.environment.values_or_defaults.Given as goal
use Rattle.constant_values.specs.Listed.{given_or_default}

abbrev pub invariant-variables : goal.invariant-variables
invariant-variables l = shown_members l.values.items ≡ map (given_or_default l.given) (take l.variable-index l.variable-items)
