-- One more selection, and all of them; what a selection adds.
use Rattle.std.proofs.Common.{◌+◌, ◌≤◌, refl, ap, ◌∙◌, arith}
use Rattle.std.specs.Prelude.{option_copied}
use Rattle.plan_ir.specs.gql_ast.SelectionView.{sel_of}
use Rattle.plan_ir.specs.gql_ast.Sels.{depth}
use Rattle.plan_ir.specs.schema_types.Sites.{below, condition_or}
use Rattle.plan_expand.specs.Extents.{both, node_extent}
use Rattle.plan_expand.specs.Measuring.{steps, total}
use Rattle.plan_expand.specs.ProgressView.{all_steps, all_total}
use Rattle.plan_expand.specs.ReadyView.{find_in}
use Rattle.plan_expand.specs.SizesView.{sizes_of}
use Rattle.plan_expand.proofs.ProgressSteps.{node_then, one_below, steps_end, steps_next, total_alone, total_end, total_next}
use Rattle.plan_expand.proofs.measure.+measure.Goals as goal

pub measure_set-measure_selection-requires : goal.measure_set-measure_selection-requires
measure_set-measure_selection-requires t c =
    let less : depth (sel_of c.selection-item.result) ≤ depth c.args.selections.now =
    one_below _ _ c.selections.selection-index c.selection-item.result (omega arith) c.selection-item.is c.selections.invariant.0 in
    (omega arith, c.requires)

pub measure_set-selections-preserved : goal.measure_set-selections-preserved
measure_set-selections-preserved t c = (
  c.selections.invariant.0,
  total_next c.args.measure.spreads c.args.measure.adding.now.schema.now (find_in c.args.measure.fragments.now) (sizes_of c.args.measure.scope.now) c.args.level (option_copied c.args.around)
      c.as_slice-selection-items.result.now c.selections.selection-index c.selection-item.result _ _ _ (omega arith) c.selection-item.is c.in_ok-measure_selection.ensures.total c.selections.invariant.1,
  steps_next c.args.measure.spreads (find_in c.args.measure.fragments.now) c.as_slice-selection-items.result.now c.selections.selection-index c.selection-item.result _ _ _ (omega arith) c.selection-item.is
      c.in_ok-measure_selection.ensures.steps c.selections.invariant.2,
)

pub measure_set-returns-clause-total : goal.measure_set-returns-clause-total
measure_set-returns-clause-total t c =
    total_end c.args.measure.spreads c.args.measure.adding.now.schema.now (find_in c.args.measure.fragments.now) (sizes_of c.args.measure.scope.now) c.args.level (option_copied c.args.around)
    c.as_slice-selection-items.result.now c.selections.selection-index _ _ (omega arith) c.selections.invariant.1

pub measure_set-returns-clause-steps : goal.measure_set-returns-clause-steps
measure_set-returns-clause-steps t c =
    steps_end c.args.measure.spreads (find_in c.args.measure.fragments.now) c.as_slice-selection-items.result.now c.selections.selection-index _ _ (omega arith) c.selections.invariant.2

pub measure_selection-returns-in_ok-added-in-Field-clause-total : goal.measure_selection-returns-in_ok-added-in-Field-clause-total
measure_selection-returns-in_ok-added-in-Field-clause-total t c =
    total_alone c.args.measure.spreads c.args.measure.adding.now.schema.now (find_in c.args.measure.fragments.now) (sizes_of c.args.measure.scope.now) c.args.level (option_copied c.args.around)
    c.args.selection.now _ _ _ _ c.in-Field.is refl c.in_ok-added-in-Field.ensures.total

pub measure_selection-returns-in_ok-added-in-Spread-clause-total : goal.measure_selection-returns-in_ok-added-in-Spread-clause-total
measure_selection-returns-in_ok-added-in-Spread-clause-total t c =
    total_alone c.args.measure.spreads c.args.measure.adding.now.schema.now (find_in c.args.measure.fragments.now) (sizes_of c.args.measure.scope.now) c.args.level (option_copied c.args.around)
    c.args.selection.now _ _ _ _ c.in-Spread.is refl c.in_ok-added-in-Spread.ensures.total

pub measure_selection-returns-in_ok-added-in-Inline-clause-total : goal.measure_selection-returns-in_ok-added-in-Inline-clause-total
measure_selection-returns-in_ok-added-in-Inline-clause-total t c =
    total_alone c.args.measure.spreads c.args.measure.adding.now.schema.now (find_in c.args.measure.fragments.now) (sizes_of c.args.measure.scope.now) c.args.level (option_copied c.args.around)
    c.args.selection.now _ _ _ _ c.in-Inline.is refl c.in_ok-added-in-Inline.ensures.total

pub measure_field-returns-clause-total : goal.measure_field-returns-clause-total
measure_field-returns-clause-total t c =
    node_then c.args.progress.now.extent c.put_field.new.progress.extent _ _
    (total c.args.measure.spreads c.args.measure.adding.now.schema.now (find_in c.args.measure.fragments.now) (sizes_of c.args.measure.scope.now) (c.args.level + 1) (below c.args.measure.adding.now.schema.now (option_copied c.args.around) c.args.name.now) c.args.selections.now)
    (all_total c.args.measure.adding.now.schema.now (find_in c.args.measure.fragments.now) c.args.progress.now.pending.items) c.in_ok-put_field.ensures.extent
    (c.in_ok-added.ensures.total
    ∙ (λ i. both (both c.put_field.new.progress.extent (all_total c.args.measure.adding.now.schema.now (find_in c.args.measure.fragments.now) (c.put_field.ensures.pending i)))
    (total c.args.measure.spreads c.args.measure.adding.now.schema.now (find_in c.args.measure.fragments.now) (sizes_of c.args.measure.scope.now) (c.in_ok-deeper.ensures i) ((c.below-inner.ensures ∙ ap (below c.args.measure.adding.now.schema.now (option_copied c.args.around)) c.as_str.ensures) i) c.args.selections.now)))

pub measure_field-returns-clause-steps : goal.measure_field-returns-clause-steps
measure_field-returns-clause-steps t c =
    c.in_ok-added.ensures.steps ∙ ap (λ ps. all_steps (find_in c.args.measure.fragments.now) ps + steps c.args.measure.spreads (find_in c.args.measure.fragments.now) c.args.selections.now) c.put_field.ensures.pending

pub measure_inline-returns-clause-total : goal.measure_inline-returns-clause-total
measure_inline-returns-clause-total t c =
    node_then c.args.progress.now.extent c.put_node.new.self _ _
    (total c.args.measure.spreads c.args.measure.adding.now.schema.now (find_in c.args.measure.fragments.now) (sizes_of c.args.measure.scope.now) (c.args.level + 1) (condition_or (option_copied c.args.around) c.args.on.now) c.args.selections.now)
    (all_total c.args.measure.adding.now.schema.now (find_in c.args.measure.fragments.now) c.args.progress.now.pending.items)
    (c.in_ok-put_node.ensures ∙ (λ i. both c.args.progress.now.extent (node_extent c.args.level (c.in_ok-printed.ensures i) (c.nothing.ensures i))))
    (c.in_ok-added.ensures.total
    ∙ (λ i. both (both c.put_node.new.self (all_total c.args.measure.adding.now.schema.now (find_in c.args.measure.fragments.now) c.args.progress.now.pending.items))
    (total c.args.measure.spreads c.args.measure.adding.now.schema.now (find_in c.args.measure.fragments.now) (sizes_of c.args.measure.scope.now) (c.in_ok-deeper.ensures i) (c.condition_or-inner.ensures i) c.args.selections.now)))
