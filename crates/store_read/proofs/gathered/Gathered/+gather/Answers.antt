-- One more step; what stands behind a guard is less deep than the step.
use Rattle.std.proofs.Common.{◌≡◌, ◌<◌, ◌≤◌, length, ap, sym, ◌∙◌, rules, arith}
use Rattle.plan_ir.proofs.StepDepths.{step_within}
use Rattle.plan_ir.specs.Reader.{depth}
use Rattle.plan_ir.proofs.KeptKeys.{kept_key}
use Rattle.plan_ir.proofs.ReaderKeys.{key_at, keys_counted}
use Rattle.plan_ir.specs.FieldKeys.{constant_key}
use Rattle.plan_ir.specs.ReaderKeys.{keys_of}
use Rattle.plan_groups.proofs.GroupSteps.{only_key}
use Rattle.plan_ir.specs.ReaderView.{step_of}
use Rattle.plan_ir.specs.declared.reader.ReaderStep.{ReaderStep}
use Rattle.store_read.proofs.GatherSteps.{guarded_deep, steps_next, spreads_next}
use Rattle.store_read.proofs.gathered.Gathered.+gather.Goals as goal

pub put_steps-put_step-requires : goal.put_steps-put_step-requires
put_steps-put_step-requires t c =
    let inside : c.steps.at < length c.as_slice-items.result.now = search rules in
    let less : depth (step_of c.index-items-at.result) ≤ depth c.args.steps.now = step_within _ c.steps.at c.index-items-at.result _ inside c.index-items-at.is c.steps.invariant.within in
    let kept = key_at c.as_slice-items.result.now c.keys-keys.result.now c.steps.at c.index-items-at.result c.index-keys-at.result inside c.index-items-at.is (c.keys-keys.ensures ∙ ap keys_of (sym c.as_slice-items.ensures)) c.index-keys-at.is in
    (omega arith, (c.steps.invariant.placed, kept))

pub put_steps-bounds-keys-at : goal.put_steps-bounds-keys-at
put_steps-bounds-keys-at t c =
    let inside : c.steps.at < length c.as_slice-items.result.now = search rules in
    let many : length c.keys-keys.result.now ≡ length c.as_slice-items.result.now = ap length (c.keys-keys.ensures ∙ ap keys_of (sym c.as_slice-items.ensures)) ∙ keys_counted c.as_slice-items.result.now in
    omega (arith, inside, many)

pub put_step-put_field-requires-in-Object-clause-kept : goal.put_step-put_field-requires-in-Object-clause-kept
put_step-put_field-requires-in-Object-clause-kept t c =
    let field : c.args.key.now ≡ constant_key c.in-Object.name c.in-Object.arguments = only_key _ _ (c.requires.1.1.1 ∙ ap (λ (x : ReaderStep). keys_of (step_of x)) c.in-Object.is) in
    λ key is. kept_key c.new.result.env.now.values c.in-Object.name c.in-Object.arguments key (sym is ∙ c.as_ref-in-Object.ensures.value ∙ field)

pub put_steps-steps-preserved : goal.put_steps-steps-preserved
put_steps-steps-preserved t c = record {
  within = c.steps.invariant.within;
  groups = steps_next c.args.env.now.values c.args.object.now _ c.steps.at c.index-items-at.result (search rules) c.index-items-at.is _ _ _ c.in_ok-put_step.ensures.groups c.steps.invariant.groups;
  spreads = spreads_next c.args.env.now.values c.args.object.now _ c.steps.at c.index-items-at.result (search rules) c.index-items-at.is _ _ _ c.in_ok-put_step.ensures.spreads c.steps.invariant.spreads;
  placed = c.in_ok-put_step.ensures.placed;
}

pub put_step-put_steps-requires : goal.put_step-put_steps-requires
put_step-put_steps-requires t c =
    let less : depth c.in-Guarded.child.steps < depth (step_of c.args.step.now) = guarded_deep _ _ _ c.in-Guarded.is in
    (omega arith, c.requires.1.1.0)
