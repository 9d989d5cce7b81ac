-- The classes so far, and those of the groups that are left, are all.
use Rattle.std.proofs.Common.{◌≡◌, ◌++◌, map}
use Rattle.plan_build.specs.Classes.{classes_of, sorted_class}
use Rattle.plan_build.specs.ClassView.{class_view, group_view}
use Rattle.plan_build.proofs.classes.classes_of.Given as goal

abbrev pub invariant-groups : goal.invariant-groups
invariant-groups l = map class_view l.classes.items ++ map sorted_class (map group_view l.group-iterator.rest.items) ≡ classes_of l.schema l.name l.types
