-- What the classes of the code stand for.
use Rattle.plan_build.specs.Classes as spec
use Rattle.plan_build.specs.Steps.{FieldNode}
use Rattle.plan_build.specs.declared.classes.Class.{Class}
use Rattle.plan_build.specs.declared.classes.Group.{Group}
use Rattle.plan_build.specs.declared.classes.Target.{Target}
use Rattle.plan_build.specs.declared.steps.Field.{Field}

abbrev pub target_view : Target → spec.Target
target_view t = record { base = t.base.now; many = t.many }

abbrev pub group_view : Group → spec.Class
group_view g = record { target = target_view g.target; types = g.types.items }

abbrev pub class_view : Class → spec.Class
class_view c = record { target = target_view c.target; types = c.types }

abbrev pub field_view : Field → FieldNode
field_view f = record { response = f.response.now; name = f.name.now; arguments = f.arguments.now; connection = f.connection.now }
