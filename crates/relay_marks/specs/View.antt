-- What the code keeps of local variables, parts of documents and uses of variables.
use Rattle.std.specs.Prelude.{List, option_map}
use Rattle.gql_syntax.specs.gql_ast.TypeView.{ty_of}
use Rattle.gql_syntax.specs.gql_ast.ValueView.{value_of}
use Rattle.gql_syntax.specs.gql_ast.declared.directive.Directive.{Directive}
use Rattle.gql_syntax.specs.gql_ast.declared.variable.VariableDef.{VariableDef}
use Rattle.constant_values.specs.gql_graph.Rules.{each}
use Rattle.relay_marks.specs.Locals as spec
use Rattle.relay_marks.specs.Locals.{Local}
use Rattle.relay_marks.specs.declared.local_variables.LocalObject.{LocalObject}

-- a local variable, by its definition
abbrev pub local_view : VariableDef → Local
local_view v = record { name = v.name; of = ty_of v.of; default = option_map value_of v.default }

abbrev pub object_view : LocalObject → spec.LocalObject
object_view s = record { of = option_map (λ t. t.now) s.of; default = option_map (λ v. value_of v.now) s.default }

-- the directives of all variables
abbrev pub directives_of_all : List VariableDef → List Directive
directives_of_all vs = each (λ (v : VariableDef). v.directives) vs
