-- What is put and what is left are the whole.
use Rattle.std.proofs.Common.{◌≡◌, ◌++◌, drop}
use Rattle.std.specs.List.{filter}
use Rattle.plan_ir.specs.schema_tables.Types.{has_id}
use Rattle.plan_build.specs.Steps.{identified}
use Rattle.plan_build.proofs.kept.identified.Given as goal

abbrev pub invariant-types : goal.invariant-types
invariant-types l = l.names.items ++ filter (has_id l.schema) (drop l.name-index l.name-items) ≡ identified l.schema l.of
