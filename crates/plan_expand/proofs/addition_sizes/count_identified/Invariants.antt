-- What is counted and what is left are the whole.
use Rattle.std.proofs.Common.{◌≡◌, ◌+◌, drop, length}
use Rattle.std.specs.List.{filter}
use Rattle.plan_ir.specs.schema_tables.Types.{has_id}
use Rattle.plan_expand.specs.Adding.{identified_types}
use Rattle.plan_expand.proofs.addition_sizes.count_identified.Given as goal

abbrev pub invariant-types : goal.invariant-types
invariant-types l = l.count + length (filter (has_id l.schema) (drop l.name-index l.name-items)) ≡ length (identified_types l.schema l.of)
