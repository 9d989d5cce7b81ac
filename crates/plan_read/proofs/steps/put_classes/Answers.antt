-- One more class, and all of them.
use Rattle.std.proofs.Common.{ap, sym, ◌∙◌, arith}
use Rattle.plan_build.specs.Classes.{Target}
use Rattle.plan_expand.specs.ScopeView.{scope_of}
use Rattle.plan_ir.specs.Reader.{Reader, reader_append}
use Rattle.plan_read.specs.FieldView.{field_view}
use Rattle.plan_read.specs.Steps.{target_step}
use Rattle.plan_read.proofs.CodeSteps.{classes_end, classes_next, many_classes}
use Rattle.plan_read.proofs.steps.put_classes.Goals as goal

pub classes-preserved : goal.classes-preserved
classes-preserved c = (
  classes_next (target_step c.args.walk.schema.now (field_view (scope_of c.args.walk.scope.now) c.args.field) c.args.child.now) c.args.classes.now c.classes.class-index c.class-item.result _ _ _
      (omega arith) c.class-item.is c.in_ok-put_class.ensures.put c.classes.invariant.0,
  c.in_ok-put_class.ensures.right,
)

pub returns-clause-put : goal.returns-clause-put
returns-clause-put c =
    let step : Target → Reader = target_step c.args.walk.schema.now (field_view (scope_of c.args.walk.scope.now) c.args.field) c.args.child.now in
    classes_end step c.args.classes.now c.classes.class-index _ _ (omega arith) c.classes.invariant.0
    ∙ ap (reader_append c.args.steps.now) (sym (many_classes step c.args.classes.now (λ e. omega arith)))
