-- What the types that are left make of the groups so far.
use Rattle.std.proofs.Common.{◌≡◌, [], map, drop}
use Rattle.plan_build.specs.Classes.{with_types}
use Rattle.plan_build.specs.ClassView.{group_view}
use Rattle.plan_build.proofs.classes.groups_of.Given as goal

abbrev pub invariant-types : goal.invariant-types
invariant-types l = with_types l.schema l.name (map group_view l.groups.items) (drop l.object-index l.object-items) ≡ with_types l.schema l.name [] l.types
