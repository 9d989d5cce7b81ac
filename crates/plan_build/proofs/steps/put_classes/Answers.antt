-- One more class, and all of them.
use Rattle.std.proofs.Common.{true≢false, refl, ap, sym, ◌∙◌, arith}
use Rattle.plan_ir.specs.Normal.{Normal, normal_append}
use Rattle.plan_build.specs.Classes.{Target}
use Rattle.plan_build.specs.ClassView.{field_view}
use Rattle.plan_build.specs.Steps.{target_step}
use Rattle.plan_build.proofs.CodeSteps.{classes_end, classes_next, many_classes}
use Rattle.plan_build.proofs.steps.put_classes.Goals as goal

pub classes-init : goal.classes-init
classes-init c = (refl, c.requires, λ e. absurd (true≢false (sym e)))

pub put_class-requires : goal.put_class-requires
put_class-requires c = record { right = c.classes.invariant.1; before = c.classes.invariant.2 }

pub classes-preserved : goal.classes-preserved
classes-preserved c = (
  classes_next (target_step c.args.schema.now (field_view c.args.field.now) c.args.child.now) c.args.classes.now c.classes.class-index c.class-item.result _ _ _
      (omega arith) c.class-item.is c.in_ok-leads.ensures.put c.classes.invariant.0,
  c.in_ok-leads.ensures.right,
  c.in_ok-leads.ensures.leads,
)

pub returns-clause-put : goal.returns-clause-put
returns-clause-put c =
    let step : Target → Normal = target_step c.args.schema.now (field_view c.args.field.now) c.args.child.now in
    classes_end step c.args.classes.now c.classes.class-index _ _ (omega arith) c.classes.invariant.0
    ∙ ap (normal_append c.args.steps.now) (sym (many_classes step c.args.classes.now (λ e. omega arith)))
