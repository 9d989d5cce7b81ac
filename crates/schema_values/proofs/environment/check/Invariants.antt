use Rattle.std.proofs.Common.{◌≡◌, drop}
use Rattle.schema_types.specs.Environments.{first_failure}
use Rattle.schema_values.proofs.environment.check.Given as goal

abbrev pub invariant-variables : goal.invariant-variables
invariant-variables l = first_failure l.schema l.defined l.given ≡ first_failure l.schema (drop l.variable-index l.variable-items) l.given
