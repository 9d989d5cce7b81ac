-- The set itself is measured, and then the spreads that wait, until none does or there are too many nodes.
use Rattle.std.proofs.Common.{ap, sym, ◌∙◌, arith}
use Rattle.std.specs.Prelude.{option_copied}
use Rattle.plan_expand.specs.Extents.{both}
use Rattle.plan_expand.specs.Measuring.{total}
use Rattle.plan_expand.specs.ProgressView.{all_steps, all_total}
use Rattle.plan_expand.specs.ReadyView.{find_in}
use Rattle.plan_expand.specs.Sizes.{own_sizes}
use Rattle.plan_expand.specs.declared.extent.Extent.{Extent}
use Rattle.plan_expand.proofs.ExtentLaws.{both_none}
use Rattle.plan_expand.proofs.Outcomes.{enough_all, enough_many}
use Rattle.plan_expand.proofs.ProgressSteps.{all_there, many_already, popped_steps, popped_total}
use Rattle.plan_expand.proofs.check.measure_all.Goals as goal

pub pending-init : goal.pending-init
pending-init c =
    c.in_ok-measure_set.ensures.total
    ∙ ap (λ (e : Extent). both e (total c.args.spreads c.args.adding.now.schema.now (find_in c.args.fragments.now) own_sizes 1 (option_copied c.args.around) c.args.selections.now))
    (ap (λ ps. both c.of_values-extent.result (all_total c.args.adding.now.schema.now (find_in c.args.fragments.now) ps)) c.new-pending.ensures.items ∙ both_none c.of_values-extent.result ∙ c.of_values-extent.ensures)

pub pending-preserved : goal.pending-preserved
pending-preserved c =
    c.in_ok-measure_pending.ensures.total
    ∙ popped_total c.args.adding.now.schema.now (find_in c.args.fragments.now) c.pending.progress.extent c.pop.new.self.items c.pending.progress.pending.items c.in-Some.next c.in-Some.ensures.items
    ∙ c.pending.invariant

pub pending-preserved-in_ok-measure_pending : goal.pending-preserved-in_ok-measure_pending
pending-preserved-in_ok-measure_pending c =
    c.in_ok-measure_pending.ensures.total
    ∙ popped_total c.args.adding.now.schema.now (find_in c.args.fragments.now) c.pending.progress.extent c.pop.new.self.items c.pending.progress.pending.items c.in-Some.next c.in-Some.ensures.items
    ∙ c.pending.invariant

pub pending-smaller : goal.pending-smaller
pending-smaller c =
    omega (
      arith,
      popped_steps (find_in c.args.fragments.now) c.pop.new.self.items c.pending.progress.pending.items c.in-Some.next (all_steps (find_in c.args.fragments.now) c.measure_pending.new.progress.pending.items)
          c.in-Some.ensures.items c.in_ok-measure_pending.ensures.steps,
    )

pub pending-smaller-in_ok-measure_pending : goal.pending-smaller-in_ok-measure_pending
pending-smaller-in_ok-measure_pending c =
    omega (
      arith,
      popped_steps (find_in c.args.fragments.now) c.pop.new.self.items c.pending.progress.pending.items c.in-Some.next (all_steps (find_in c.args.fragments.now) c.measure_pending.new.progress.pending.items)
          c.in-Some.ensures.items c.in_ok-measure_pending.ensures.steps,
    )

pub returns-then-has_too_many_nodes : goal.returns-then-has_too_many_nodes
returns-then-has_too_many_nodes c =
    enough_many _ c.pending.progress.extent (sym c.has_too_many_nodes.ensures ∙ c.if-has_too_many_nodes.true)
    (many_already c.pending.progress.extent (all_total c.args.adding.now.schema.now (find_in c.args.fragments.now) c.pending.progress.pending.items) _ c.pending.invariant
    (sym c.has_too_many_nodes.ensures ∙ c.if-has_too_many_nodes.true))

pub returns : goal.returns
returns c =
    enough_all _ c.pending.progress.extent
    (all_there c.args.adding.now.schema.now (find_in c.args.fragments.now) c.pending.progress.extent c.pending.progress.pending.items _ (omega (arith, c.in_default.ensures.cases.0, c.pending.progress.pending.ok.0)) c.pending.invariant)
