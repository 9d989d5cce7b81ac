-- What is put and what is left are the whole.
use Rattle.std.proofs.Common.{◌≡◌, map, drop}
use Rattle.plan_build.specs.ClassView.{class_view}
use Rattle.plan_build.specs.KeptView.{IsRight}
use Rattle.plan_expand.specs.ScopeView.{scope_of}
use Rattle.plan_ir.specs.Reader.{reader_append}
use Rattle.plan_read.specs.FieldView.{field_view}
use Rattle.plan_read.specs.Steps.{guarded_classes, target_step}
use Rattle.plan_read.proofs.steps.put_classes.Given as goal

abbrev pub invariant-classes : goal.invariant-classes
invariant-classes l =
    (reader_append l.steps (guarded_classes (target_step l.walk.schema.now (field_view (scope_of l.walk.scope.now) l.field) l.child) (map class_view (drop l.class-index l.classes)))
    ≡ reader_append l.initial.steps (guarded_classes (target_step l.walk.schema.now (field_view (scope_of l.walk.scope.now) l.field) l.child) (map class_view l.classes)))
    × IsRight l.walk.schema.now l.kept
