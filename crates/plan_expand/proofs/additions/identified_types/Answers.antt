-- One more type, and all of them.
use Rattle.std.proofs.Common.{◌∷◌, [], refl, arith}
use Rattle.std.specs.List.{filter}
use Rattle.plan_ir.specs.schema_tables.Types.{has_id}
use Rattle.plan_expand.proofs.Lists.{filter_before, list_end, list_next}
use Rattle.plan_expand.proofs.additions.identified_types.Goals as goal

pub types-preserved : goal.types-preserved
types-preserved c =
    list_next (filter (has_id c.args.schema.now)) (λ n. filter (has_id c.args.schema.now) (n ∷ [])) (filter_before (has_id c.args.schema.now)) c.as_slice-name-items.result.now c.types.name-index c.name-item.result _ _ _
    (omega arith) c.name-item.is c.in_ok-put_identified_name.ensures c.types.invariant

pub returns : goal.returns
returns c = list_end (filter (has_id c.args.schema.now)) refl c.as_slice-name-items.result.now c.types.name-index _ _ (omega arith) c.types.invariant
