-- None of the groups so far is it.
use Rattle.std.proofs.Common.{◌≡◌, take, None}
use Rattle.plan_ir.specs.schema_tables.Places.{first_at}
use Rattle.plan_build.specs.Classes.{same_target}
use Rattle.plan_build.specs.ClassView.{target_view}
use Rattle.plan_build.proofs.classes.find_group.Given as goal

abbrev pub invariant-groups : goal.invariant-groups
invariant-groups l = first_at (λ g. same_target l.schema (target_view g.target) (target_view l.target)) (take l.at l.groups) ≡ None
