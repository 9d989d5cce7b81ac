-- What is left, put before what is sorted, gives all.
use Rattle.std.proofs.Common.{◌≡◌, vec_len}
use Rattle.plan_ir.specs.gql_plain.Shown.{shown_members}
use Rattle.line_engine.proofs.environments.first_of_each.Given as goal
use Rattle.plan_ir.specs.schema_types.Environments.{with_pair}
use Rattle.plan_ir.proofs.constant_values_laws.Placing.{put_all}
use Rattle.plan_ir.specs.constant_values.Listed.{first_of_each}

abbrev pub invariant-pairs : goal.invariant-pairs
invariant-pairs l = put_all with_pair (shown_members l.pairs.items) (shown_members l.sorted.entries) ≡ first_of_each (shown_members l.fn.pairs.items)

abbrev pub decreases-pairs : goal.decreases-pairs
decreases-pairs l = vec_len l.pairs
