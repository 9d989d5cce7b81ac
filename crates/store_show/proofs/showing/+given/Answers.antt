-- One more step; what stands behind a guard is less deep than the step.
use Rattle.std.proofs.Common.{rules, ◌<◌, ◌≤◌, sym, ap, ◌∙◌, arith}
use Rattle.plan_ir.proofs.StepDepths.{step_within}
use Rattle.plan_ir.specs.Reader.{depth}
use Rattle.plan_ir.specs.ReaderMeaning.{collect_reading}
use Rattle.plan_ir.specs.ReaderView.{step_of}
use Rattle.plan_ir.specs.declared.reader.ReaderStep.{ReaderStep}
use Rattle.store_read.proofs.GatherSteps.{collect_pointer, guarded_deep}
use Rattle.store_show.proofs.PointerSteps.{pointed_here, pointed_next}
use Rattle.store_show.proofs.showing.+given.Goals as goal
use Rattle.store_show.specs.Showing.{has_pointed}

pub has_pointer-is_pointer-requires : goal.has_pointer-is_pointer-requires
has_pointer-is_pointer-requires t c =
    let less : depth (step_of c.step-item.result) ≤ depth c.args.plan.now = step_within _ c.steps.step-index c.step-item.result _ (omega arith) c.step-item.is c.steps.invariant.within in
    (omega (arith, less, c.decreases), tt)

pub has_pointer-steps-preserved : goal.has_pointer-steps-preserved
has_pointer-steps-preserved t c = record {
  within = c.steps.invariant.within;
  left = pointed_next c.args.at.env.now.values c.args.at.name.now _ c.steps.step-index c.step-item.result (omega arith) c.step-item.is _ (sym c.in_ok-some.ensures ∙ search rules) c.steps.invariant.left;
}

pub has_pointer-returns-then-some : goal.has_pointer-returns-then-some
has_pointer-returns-then-some t c =
    pointed_here c.args.at.env.now.values c.args.at.name.now _ c.steps.step-index c.step-item.result (omega arith) c.step-item.is _ (sym c.in_ok-some.ensures ∙ search rules) c.steps.invariant.left

pub is_pointer-has_pointer-requires : goal.is_pointer-has_pointer-requires
is_pointer-has_pointer-requires t c =
    let less : depth c.in-Guarded.child.steps < depth (step_of c.args.step.now) = guarded_deep _ _ _ c.in-Guarded.is in
    (omega (arith, less, c.decreases), tt)

pub is_pointer-returns-in-Pointer : goal.is_pointer-returns-in-Pointer
is_pointer-returns-in-Pointer t c =
    sym (ap (λ (y : ReaderStep). has_pointed (collect_reading c.args.at.env.now.values c.args.at.name.now (step_of y))) c.in-Pointer.is
    ∙ ap has_pointed (collect_pointer c.args.at.env.now.values c.args.at.name.now c.in-Pointer.fragment c.in-Pointer.arguments c.in-Pointer.inline))
