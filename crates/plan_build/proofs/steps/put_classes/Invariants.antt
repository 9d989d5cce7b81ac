-- What is put and what is left are the whole.
use Rattle.std.proofs.Common.{◌≡◌, true, Some, map, drop}
use Rattle.plan_ir.specs.Normal.{normal_append}
use Rattle.plan_ir.specs.NormalLeads.{last_lead}
use Rattle.plan_build.specs.ClassView.{class_view, field_view}
use Rattle.plan_build.specs.KeptView.{IsRight}
use Rattle.plan_build.specs.Steps.{guarded_classes, target_step}
use Rattle.plan_build.proofs.steps.put_classes.Given as goal

abbrev pub invariant-classes : goal.invariant-classes
invariant-classes l =
    (normal_append l.steps (guarded_classes (target_step l.schema (field_view l.field) l.child) (map class_view (drop l.class-index l.classes)))
    ≡ normal_append l.initial.steps (guarded_classes (target_step l.schema (field_view l.field) l.child) (map class_view l.classes)))
    × IsRight l.schema l.kept
    × (l.leads ≡ true → last_lead l.steps ≡ Some l.child)
