-- One more type, and all of them, which are in order.
use Rattle.std.proofs.Common.{refl, arith}
use Rattle.std.specs.List.{filter}
use Rattle.plan_ir.specs.schema_tables.Types.{has_id}
use Rattle.plan_build.proofs.CodeSteps.{identified_in_order, list_end}
use Rattle.plan_build.proofs.kept.identified.Goals as goal

pub in_order-requires : goal.in_order-requires
in_order-requires c =
    identified_in_order c.args.schema.now c.args.of.now c.types.names.items
    (list_end (filter (has_id c.args.schema.now)) refl c.as_slice-name-items.result.now c.types.name-index _ _ (omega arith) c.types.invariant)
