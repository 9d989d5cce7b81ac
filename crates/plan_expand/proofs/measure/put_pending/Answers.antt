-- The spread waits, and its own node is added.
use Rattle.std.proofs.Common.{◌-◌, Some, ap, ◌∙◌}
use Rattle.plan_expand.specs.Extents.{both, node_extent}
use Rattle.plan_expand.specs.Measuring.{sizes_at_spread, total}
use Rattle.plan_expand.specs.ReadyView.{find_in, ready_of}
use Rattle.plan_expand.specs.Sizes.{beside}
use Rattle.plan_expand.specs.SizesView.{sizes_of}
use Rattle.plan_expand.proofs.ProgressSteps.{pending_put, steps_more}
use Rattle.plan_expand.proofs.LocalSizes.{local_sizes}
use Rattle.plan_expand.specs.ProgressView.{all_steps}
use Rattle.plan_expand.proofs.measure.put_pending.Goals as goal

pub returns-clause-total : goal.returns-clause-total
returns-clause-total c =
    pending_put c.args.measure.adding.now.schema.now (find_in c.args.measure.fragments.now) (sizes_of c.args.measure.scope.now) c.args.directives.now c.args.level (c.args.measure.spreads - 1)
    (ready_of c.args.fragment.now) c.args.progress.now.extent _ c.args.progress.now.pending.items _ _
    (c.in_ok-put_node.ensures
    ∙ (λ i. both c.args.progress.now.extent (node_extent c.args.level ((c.in_ok-values.ensures ∙ (λ j. beside (c.in_ok-conditions.ensures j) (c.in_ok-given.ensures j))) i) (c.nothing.ensures i))))
    c.in_ok-push.ensures.items
    (λ i. total (c.args.measure.spreads - 1) c.args.measure.adding.now.schema.now (find_in c.args.measure.fragments.now)
    (λ n. (c.in_ok-scope.ensures n ∙ ap (λ local. sizes_at_spread (sizes_of c.args.measure.scope.now) c.args.directives.now local n) (λ j m. local_sizes c.args.fragment.now.locals m j)) i)
    (c.in_ok-deeper.ensures i) (Some c.args.fragment.now.on.now) c.args.fragment.now.selections.now)

pub returns-clause-steps : goal.returns-clause-steps
returns-clause-steps c =
    ap (all_steps (find_in c.args.measure.fragments.now)) c.in_ok-push.ensures.items ∙ steps_more (find_in c.args.measure.fragments.now) c.args.progress.now.pending.items _
