-- What collection goes by (GraphQL, October 2021, section 6.3.2): the fields that are added to sets, the environments inside fragments, which
-- selections conditions leave out, and on which object types a type condition holds.
use Rattle.std.specs.Prelude.{Bool, true, not, ◌&&◌, ◌||◌, List, [], ◌∷◌, codes, Option, Some, None, is_some, bytes_eq}
use Rattle.std.specs.List.{list_any}
use Rattle.plan_ir.specs.gql_plain.Order.{has_text}
use Rattle.plan_ir.specs.gql_plain.Tree as t
use Rattle.plan_ir.specs.gql_plain.Tree.{Tree}
use Rattle.plan_ir.specs.gql_graph.Rules.{each}
use Rattle.plan_ir.specs.gql_ast.Sels as sels
use Rattle.plan_ir.specs.gql_ast.Sels.{Sels, sels_append}
use Rattle.plan_ir.specs.gql_ast.Value.{Val}
use Rattle.plan_ir.specs.gql_ast.declared.directive.Directive.{Directive}
use Rattle.plan_ir.specs.gql_ast.declared.place.FilePlace.{FilePlace}
use Rattle.plan_ir.specs.Additions.{additions, type_or}
use Rattle.plan_ir.specs.relay_marks.Connections.{connection_among, value_of_name}
use Rattle.plan_ir.specs.relay_marks.Locals.{Local, locals_of}
use Rattle.plan_ir.specs.Substitution.{Arguments, arguments_in}
use Rattle.plan_collect.specs.Printed.{printed_selections}
use Rattle.plan_ir.specs.schema_tables.Types.{Text, Defs, base_of, possible}
use Rattle.plan_ir.specs.schema_types.Environments.{Values, arguments_in_environment, evaluation, is_true, value_in, with_pair}
use Rattle.plan_ir.specs.schema_types.Sites.{FragmentAt, below, condition_or, field_type}

-- ---- the source with its additions

-- the fields that are added to the set of a field, as selections
abbrev pub field_additions : Defs → (around : Option Text) → (name : Text) → List Directive → Sels → FilePlace → Sels
field_additions defs around n ds s place = printed_selections (additions defs (is_some (connection_among ds)) (base_of (type_or (field_type defs around n))) s place)

-- the selections of a set with the type around it: to the set of each field its additions at the end
abbrev pub with_additions : Defs → FilePlace → (around : Option Text) → Sels → Sels
with_additions defs place around sels.end = sels.end
with_additions defs place around (sels.field a n xs ds s rest) =
    sels.field a n xs ds (sels_append (with_additions defs place (below defs around n) s) (field_additions defs around n ds s place)) (with_additions defs place around rest)
with_additions defs place around (sels.spread n ds rest) = sels.spread n ds (with_additions defs place around rest)
with_additions defs place around (sels.inline o ds s rest) =
    sels.inline o ds (with_additions defs place (condition_or around o) s) (with_additions defs place around rest)

-- ---- environments inside fragments

-- the value that is given, under the environment around the spread, else the default, else null
abbrev pub local_value : (own around : Values) → (given default : Option Val) → Tree
local_value own around (Some v) d = evaluation around v
local_value own around None (Some d) = evaluation own d
local_value own around None None = t.null

-- each local variable has its value; all other names are the operation's own
abbrev pub with_locals : (own around : Values) → (given : Arguments) → List Local → Values
with_locals own around given [] = own
with_locals own around given (l ∷ ls) =
    with_pair l.name (local_value own around (value_of_name given l.name) l.default) (with_locals own around given ls)

abbrev pub environment_inside : (own around : Values) → List Directive → FragmentAt → Values
environment_inside own around ds f = with_locals own around (each arguments_in ds) (locals_of f.directives)

-- ---- what is left out

abbrev pub condition_holds : Values → Directive → Bool
condition_holds env d = is_true (value_in (arguments_in_environment env d.arguments) (codes "if"))

-- `@skip` leaves a selection out if its condition is true, `@include` unless it is true
abbrev pub leaves_out : Values → Directive → Bool
leaves_out env d =
    (bytes_eq d.name (codes "skip") && condition_holds env d) || (bytes_eq d.name (codes "include") && not (condition_holds env d))

abbrev pub is_left_out : Values → List Directive → Bool
is_left_out env ds = list_any (λ d. leaves_out env d) ds

-- whether a type condition holds of an object type
abbrev pub applies : Defs → (on : Option Text) → (object : Text) → Bool
applies defs None T = true
applies defs (Some on) T = has_text (possible defs on) T
