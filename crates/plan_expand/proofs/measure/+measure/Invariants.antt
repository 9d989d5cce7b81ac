-- What is measured and what is left are the whole; what stands inside a selection is less deep than its set.
use Rattle.std.proofs.Common.{◌≡◌, ◌+◌, ◌*◌, drop}
use Rattle.std.specs.Prelude.{option_copied}
use Rattle.plan_ir.specs.gql_ast.SelectionView.{sel_of, sels_of}
use Rattle.plan_ir.specs.gql_ast.Sels.{depth}
use Rattle.plan_expand.specs.Extents.{both}
use Rattle.plan_expand.specs.Measuring.{steps, total}
use Rattle.plan_expand.specs.ProgressView.{all_steps, whole_total}
use Rattle.plan_expand.specs.ReadyView.{find_in}
use Rattle.plan_expand.specs.SizesView.{sizes_of}
use Rattle.plan_expand.proofs.measure.+measure.Given as goal

abbrev pub decreases-measure_set : goal.decreases-measure_set
decreases-measure_set l = 3 * depth l.selections.now + 3

abbrev pub decreases-measure_selection : goal.decreases-measure_selection
decreases-measure_selection l = 3 * depth (sel_of l.selection.now) + 2

abbrev pub decreases-measure_field : goal.decreases-measure_field
decreases-measure_field l = 3 * depth l.selections.now + 4

abbrev pub decreases-measure_inline : goal.decreases-measure_inline
decreases-measure_inline l = 3 * depth l.selections.now + 4

abbrev pub invariant-measure_set-selections : goal.invariant-measure_set-selections
invariant-measure_set-selections l =
    (sels_of l.selection-items ≡ l.selections)
    × (both (whole_total l.measure.adding.now.schema.now (find_in l.measure.fragments.now) l.progress)
    (total l.measure.spreads l.measure.adding.now.schema.now (find_in l.measure.fragments.now) (sizes_of l.measure.scope.now) l.level (option_copied l.around) (sels_of (drop l.selection-index l.selection-items)))
    ≡ both (whole_total l.measure.adding.now.schema.now (find_in l.measure.fragments.now) l.initial.progress)
    (total l.measure.spreads l.measure.adding.now.schema.now (find_in l.measure.fragments.now) (sizes_of l.measure.scope.now) l.level (option_copied l.around) l.selections))
    × (all_steps (find_in l.measure.fragments.now) l.progress.pending.items + steps l.measure.spreads (find_in l.measure.fragments.now) (sels_of (drop l.selection-index l.selection-items))
    ≡ all_steps (find_in l.measure.fragments.now) l.initial.progress.pending.items + steps l.measure.spreads (find_in l.measure.fragments.now) l.selections)
