-- What is left tells it.
use Rattle.std.proofs.Common.{◌≡◌, drop}
use Rattle.plan_build.specs.Classes.{all_lead_to}
use Rattle.plan_build.specs.ClassView.{target_view}
use Rattle.plan_build.proofs.classes.all_lead_to.Given as goal

abbrev pub invariant-types : goal.invariant-types
invariant-types l = all_lead_to l.schema l.name (target_view l.target) (drop l.object-index l.types) ≡ all_lead_to l.schema l.name (target_view l.target) l.types
