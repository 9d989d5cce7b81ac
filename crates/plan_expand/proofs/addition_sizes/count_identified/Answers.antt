-- One more type, and all of them.
use Rattle.std.proofs.Common.{◌+◌, ◌∷◌, [], length, refl, ap, ◌∙◌, arith}
use Rattle.std.specs.List.{filter}
use Rattle.plan_ir.specs.schema_tables.Types.{has_id}
use Rattle.plan_expand.proofs.Lists.{filter_before, number_end, number_next}
use Rattle.plan_expand.proofs.addition_sizes.count_identified.Goals as goal

pub types-preserved : goal.types-preserved
types-preserved c =
    number_next (filter (has_id c.args.schema.now)) (λ n. filter (has_id c.args.schema.now) (n ∷ [])) (filter_before (has_id c.args.schema.now)) c.as_slice-name-items.result.now c.types.name-index c.name-item.result _ _ _
    (omega arith) c.name-item.is
    (c.in_ok-count.ensures ∙ ap (λ m. c.types.count + length (filter (has_id c.args.schema.now) (m ∷ []))) c.as_str.ensures) c.types.invariant

pub returns : goal.returns
returns c = number_end (filter (has_id c.args.schema.now)) refl c.as_slice-name-items.result.now c.types.name-index _ _ (omega arith) c.types.invariant
