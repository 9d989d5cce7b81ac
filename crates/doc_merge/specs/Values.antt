-- In an expanded operation each use of a variable is allowed, and each literal that was put in for a local variable fits (this project's
-- own; GraphQL, October 2021, sections 5.6.1 and 5.8.5 for what is allowed and what fits).
use Rattle.std.specs.Prelude.{Bool, true, false, not, ◌&&◌, cond, List, [], ◌∷◌, ◌++◌, Option, Some, None, option_map, bytes_eq}
use Rattle.plan_ir.specs.gql_ast.TypeView.{ty_of}
use Rattle.plan_ir.specs.gql_ast.Value.{Val, Vals, Members, variable, list, object, no_vals, val, no_members, member}
use Rattle.plan_ir.specs.gql_ast.declared.member.InputTree.{InputTree}
use Rattle.plan_ir.specs.gql_ast.declared.directive.Directive.{Directive}
use Rattle.plan_ir.specs.gql_ast.declared.place.FilePlace.{FilePlace}
use Rattle.plan_ir.specs.gql_ast.declared.variable.VariableDef.{VariableDef}
use Rattle.plan_ir.specs.Nodes.{Nodes, end, field, inline}
use Rattle.plan_ir.specs.schema_tables.BuiltIn as known
use Rattle.plan_ir.specs.schema_tables.Fits.{literal_fits, use_allowed}
use Rattle.plan_ir.specs.schema_tables.Types.{Text, Defs, base_of, field_def, field_on}
use Rattle.plan_ir.specs.schema_tables.Views.{DirectiveDef, FieldDef, InputDef}
use Rattle.plan_ir.specs.schema_tables.Inputs.{input_among}
use Rattle.plan_ir.specs.schema_types.ArgumentRules.{Place, fields_at, item_place, place_among, place_for}
use Rattle.doc_merge.specs.Gathering.{on_or}
use Rattle.doc_merge.specs.Places.{wrong}
use Rattle.doc_merge.specs.Signatures.{Argument}

-- ---- one argument

abbrev pub variable_named : List VariableDef → Text → Option VariableDef
variable_named [] n = None
variable_named (v ∷ vs) n = cond (bytes_eq v.name n) (Some v) (variable_named vs n)

abbrev pub is_allowed_at : VariableDef → Option Place → Bool
is_allowed_at v None = true
is_allowed_at v (Some p) = use_allowed (ty_of v.of) v.default p.0 p.1

abbrev pub is_allowed : Option VariableDef → Option Place → Bool
is_allowed None p = false
is_allowed (Some v) p = is_allowed_at v p

-- each use of a variable in a value at a place
abbrev mutual
  pub uses_are_allowed : Defs → List VariableDef → Val → Option Place → Bool
  uses_are_allowed defs vs (variable n) p = is_allowed (variable_named vs n) p
  uses_are_allowed defs vs (list xs) p = items_are_allowed defs vs xs (item_place p)
  uses_are_allowed defs vs (object ms) p = members_are_allowed defs vs ms (fields_at defs p)
  uses_are_allowed defs vs v p = true

  pub items_are_allowed : Defs → List VariableDef → Vals → Option Place → Bool
  items_are_allowed defs vs no_vals p = true
  items_are_allowed defs vs (val v xs) p = uses_are_allowed defs vs v p && items_are_allowed defs vs xs p

  pub members_are_allowed : Defs → List VariableDef → Members → Option (List InputTree) → Bool
  members_are_allowed defs vs no_members is = true
  members_are_allowed defs vs (member n v ms) is = uses_are_allowed defs vs v (place_among is n) && members_are_allowed defs vs ms is

abbrev pub fits_input : Defs → Val → Option InputDef → Bool
fits_input defs v None = true
fits_input defs v (Some i) = literal_fits defs v (ty_of i.of)

abbrev pub is_good_value : Defs → List VariableDef → Option InputDef → Val → Bool
is_good_value defs vs i v = fits_input defs v i && uses_are_allowed defs vs v (place_for i)

-- ---- the arguments of a field or a directive, all at the place of the node

-- the argument of a name among those that are taken, where it is known which
abbrev pub input_in : Option (List InputDef) → Text → Option InputDef
input_in None n = None
input_in (Some is) n = input_among is n

abbrev pub argument_unfit : Defs → List VariableDef → Option (List InputDef) → FilePlace → Argument → List FilePlace
argument_unfit defs vs is p x = wrong (not (is_good_value defs vs (input_in is x.0) x.1)) p

abbrev pub arguments_unfit : Defs → List VariableDef → Option (List InputDef) → FilePlace → List Argument → List FilePlace
arguments_unfit defs vs is p [] = []
arguments_unfit defs vs is p (x ∷ xs) = argument_unfit defs vs is p x ++ arguments_unfit defs vs is p xs

abbrev pub field_inputs : Defs → (around : Text) → Text → Option (List InputDef)
field_inputs defs around n = option_map (λ (f : FieldDef). f.arguments) (option_map field_def (field_on defs around n))

abbrev pub directive_inputs : Defs → Text → Option (List InputDef)
directive_inputs defs n = option_map (λ (d : DirectiveDef). d.arguments) (known.directive defs n)

abbrev pub directives_unfit : Defs → List VariableDef → FilePlace → List Directive → List FilePlace
directives_unfit defs vs p [] = []
directives_unfit defs vs p (d ∷ ds) = arguments_unfit defs vs (directive_inputs defs d.name) p d.arguments ++ directives_unfit defs vs p ds

-- ---- the nodes of a set on a type, and all inside them

abbrev pub nodes_unfit : Defs → List VariableDef → (around : Text) → Nodes → List FilePlace
nodes_unfit defs vs around end = []
nodes_unfit defs vs around (field r n xs ds c of s p rest) =
    ((arguments_unfit defs vs (field_inputs defs around n) p xs ++ directives_unfit defs vs p ds) ++ nodes_unfit defs vs (base_of of) s) ++ nodes_unfit defs vs around rest
nodes_unfit defs vs around (inline o ds s p rest) =
    (directives_unfit defs vs p ds ++ nodes_unfit defs vs (on_or around o) s) ++ nodes_unfit defs vs around rest
