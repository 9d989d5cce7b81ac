-- The rules that a schema has to meet (GraphQL, October 2021, section 3; S4 and S12, and the places, are this project's own). Each is
-- the list of the places where it does not hold: of a name at fault, or, where something is missing, of the name of the definition
-- that lacks it.
use Rattle.std.specs.Prelude.{ℕ, ◌+◌, Bool, true, false, cond, not, ◌&&◌, ◌||◌, nat_lt, List, [], ◌∷◌, ◌++◌, map, length, take, codes, Option, Some, None, is_some, bytes_eq}
use Rattle.std.specs.List.{list_any, filter_map}
use Rattle.gql_graph.specs.gql_plain.Order.{has_text}
use Rattle.schema_trees.specs.gql_ast.Ty.{Ty}
use Rattle.schema_trees.specs.gql_ast.Ty as ty
use Rattle.schema_trees.specs.gql_ast.TypeView.{ty_of}
use Rattle.schema_trees.specs.gql_ast.Value.{Val}
use Rattle.schema_trees.specs.gql_ast.declared.document.Kind.{Kind}
use Rattle.schema_trees.specs.gql_ast.declared.document.Kind.TheVariants.{Query, Mutation, Subscription}
use Rattle.schema_trees.specs.gql_ast.declared.member.FieldTree.{FieldTree}
use Rattle.schema_trees.specs.gql_ast.declared.member.InputTree.{InputTree}
use Rattle.schema_rules.specs.declared.fault.Rule.{Rule}
use Rattle.schema_rules.specs.declared.fault.Rule.TheVariants as R
use Rattle.schema_trees.specs.schema_tables.declared.kind.TypeKind.{TypeKind}
use Rattle.schema_trees.specs.schema_tables.BuiltIn.{is_built_in_directive}
use Rattle.schema_trees.specs.schema_tables.Fits.{is_non_null, literal_fits}
use Rattle.schema_trees.specs.Located.{Located, TypeAt, InputAt, FieldAt, RootAt, DefAt, schema, scalar, object, interface, union, enum, input, directive}
use Rattle.gql_graph.specs.Reached.{any_leads}
pub use Rattle.gql_graph.specs.Rules.{each, wrong, first_broken}
pub use Rattle.schema_trees.specs.DefinitionParts.{repeats, repeated_names, names_of, type_name_of, directive_name_of, fields_in, interfaces_in, union_members_in, enum_values_in, input_fields_in, inputs_in, roots_in, input_names, field_names, root_names, defined_name}
use Rattle.schema_trees.specs.schema_tables.Types.{Text, Defs, built_in_scalars, is_built_in_scalar, type_named, kind_of, is_kind, is_input_kind, is_output_kind, is_object_kind, is_interface_kind, is_composite, base_of, implements, applies, interfaces_named, fields_named, input_named, inputs_of, same_kind, default_root, is_empty}

abbrev pub begins_with_underscores : Text → Bool
begins_with_underscores n = bytes_eq (take 2 n) (codes "__")

-- a definition of a built-in scalar or directive is taken and has no effect
abbrev pub has_effect : DefAt → Bool
has_effect (scalar n) = not (is_built_in_scalar n.name)
has_effect (directive n xs) = not (is_built_in_directive n.name)
has_effect d = true

-- a type's name with its place
abbrev pub named_at : TypeAt → Located
named_at t = record { name = base_of t.of; at = t.at }

-- ---- S1: type names differ, directive names differ, there is one `schema` definition at most, and no kind stands twice in one

abbrev pub further_schemas : (seen : Bool) → List DefAt → List ℕ
further_schemas seen [] = []
further_schemas seen (schema at rs ∷ ds) = wrong seen at ++ further_schemas true ds
further_schemas seen (d ∷ ds) = further_schemas seen ds

abbrev pub has_kind : List Kind → Kind → Bool
has_kind ks k = list_any (λ one. same_kind one k) ks

abbrev pub repeated_kinds : (before : List Kind) → List RootAt → List ℕ
repeated_kinds before [] = []
repeated_kinds before (r ∷ rs) = wrong (has_kind before r.kind) r.name.at ++ repeated_kinds (r.kind ∷ before) rs

abbrev pub names_not_unique : List DefAt → List ℕ
names_not_unique ds =
    repeats built_in_scalars (filter_map type_name_of ds) ++ repeated_names (filter_map directive_name_of ds)
    ++ further_schemas false ds ++ each (λ d. repeated_kinds [] (roots_in d)) ds

-- ---- S2: every type name used is defined or built in

abbrev pub used_in : DefAt → List Located
used_in d =
    map (λ (r : RootAt). r.name) (roots_in d) ++ interfaces_in d ++ union_members_in d
    ++ map (λ (f : FieldAt). named_at f.of) (fields_in d) ++ map (λ (i : InputAt). named_at i.of) (inputs_in d)

abbrev pub not_defined : Defs → Located → List ℕ
not_defined defs n = wrong (not (is_some (kind_of defs n.name))) n.at

abbrev pub types_not_defined : Defs → List DefAt → List ℕ
types_not_defined defs ds = each (λ d. each (not_defined defs) (used_in d)) ds

-- ---- S3: there is a query root; root types are object types and differ

abbrev pub is_object : Defs → Text → Bool
is_object defs n = is_kind is_object_kind (kind_of defs n)

abbrev pub not_object : Defs → Located → List ℕ
not_object defs n = wrong (not (is_object defs n.name)) n.at

-- the first token of the schema
abbrev pub first_node : ℕ
first_node = 0

abbrev pub gives_query : List RootAt → Bool
gives_query rs = has_kind (map (λ (r : RootAt). r.kind) rs) Query

abbrev pub roots_wrong : Defs → List RootAt → List ℕ
roots_wrong defs rs = wrong (not (gives_query rs)) first_node ++ each (not_object defs) (root_names rs) ++ repeated_names (root_names rs)

abbrev pub is_default_root : Text → Bool
is_default_root n = has_text (default_root Query ∷ default_root Mutation ∷ default_root Subscription ∷ []) n

abbrev pub default_root_wrong : Defs → Located → List ℕ
default_root_wrong defs n = wrong (is_default_root n.name && not (is_object defs n.name)) n.at

abbrev pub default_roots_wrong : Defs → List DefAt → List ℕ
default_roots_wrong defs ds =
    wrong (not (is_some (type_named defs (default_root Query)))) first_node ++ each (default_root_wrong defs) (filter_map type_name_of ds)

abbrev pub roots_given : List DefAt → Option (List RootAt)
roots_given [] = None
roots_given (schema at rs ∷ ds) = Some rs
roots_given (d ∷ ds) = roots_given ds

abbrev pub roots_wrong_in : Defs → List DefAt → Option (List RootAt) → List ℕ
roots_wrong_in defs ds (Some rs) = roots_wrong defs rs
roots_wrong_in defs ds None = default_roots_wrong defs ds

abbrev pub root_types_wrong : Defs → List DefAt → List ℕ
root_types_wrong defs ds = roots_wrong_in defs ds (roots_given ds)

-- ---- S4: no name of a type, field, argument, input field, enum value or directive begins with `__`

abbrev pub defined_names : DefAt → List Located
defined_names d = defined_name d ++ field_names (fields_in d) ++ input_names (inputs_in d) ++ enum_values_in d

abbrev pub reserved_name : Located → List ℕ
reserved_name n = wrong (begins_with_underscores n.name) n.at

abbrev pub names_reserved : List DefAt → List ℕ
names_reserved ds = each (λ d. each reserved_name (defined_names d)) ds

-- ---- S5: within one definition fields, arguments of one field, enum values, union members, input fields and implemented interfaces differ

abbrev pub repeated_in : DefAt → List ℕ
repeated_in d =
    repeated_names (field_names (fields_in d)) ++ each (λ (f : FieldAt). repeated_names (input_names f.arguments)) (fields_in d)
    ++ repeated_names (enum_values_in d) ++ repeated_names (union_members_in d) ++ repeated_names (input_names (input_fields_in d)) ++ repeated_names (interfaces_in d)

abbrev pub members_not_unique : List DefAt → List ℕ
members_not_unique ds = each repeated_in ds

-- ---- S6: fields have output types; arguments and input fields have input types

abbrev pub not_of : (TypeKind → Bool) → Defs → TypeAt → List ℕ
not_of such defs t = wrong (not (is_kind such (kind_of defs (base_of t.of)))) t.at

abbrev pub kinds_wrong_in : Defs → DefAt → List ℕ
kinds_wrong_in defs d =
    each (λ (f : FieldAt). not_of is_output_kind defs f.of) (fields_in d) ++ each (λ (i : InputAt). not_of is_input_kind defs i.of) (inputs_in d)

abbrev pub kinds_wrong : Defs → List DefAt → List ℕ
kinds_wrong defs ds = each (kinds_wrong_in defs) ds

-- ---- S7: what is implemented is an interface, not the type itself, and every interface that it implements is named too

abbrev pub is_interface : Defs → Text → Bool
is_interface defs n = is_kind is_interface_kind (kind_of defs n)

abbrev pub cannot_implement : Defs → (type : Text) → Located → List ℕ
cannot_implement defs type n = wrong (not (is_interface defs n.name) || bytes_eq n.name type) n.at

-- whether an interface that one of these implements is not among them
abbrev pub leaves_out : Defs → List Text → Text → Bool
leaves_out defs named i = list_any (λ one. not (has_text named one)) (interfaces_named (type_named defs i))

abbrev pub implements_wrong : Defs → Located → List Located → List ℕ
implements_wrong defs type is =
    each (cannot_implement defs type.name) is ++ wrong (list_any (leaves_out defs (names_of is)) (names_of is)) type.at

abbrev pub implements_wrong_in : Defs → DefAt → List ℕ
implements_wrong_in defs (object n is fs) = implements_wrong defs n is
implements_wrong_in defs (interface n is fs) = implements_wrong defs n is
implements_wrong_in defs d = []

abbrev pub interfaces_wrong : Defs → List DefAt → List ℕ
interfaces_wrong defs ds = each (implements_wrong_in defs) ds

-- ---- S8: a type has each field of its interfaces, of the same type or a narrower one; it has each argument with the same type, and
-- further arguments are not required

-- the same name, a possible type of it, or an interface that implements it
abbrev pub is_narrower_name : Defs → (narrow wide : Text) → Bool
is_narrower_name defs a b = bytes_eq a b || (is_object defs a && applies defs a b) || (is_interface defs a && implements defs a b)

abbrev pub is_narrower : Defs → (narrow wide : Ty) → Bool
is_narrower defs (ty.non_null a) (ty.non_null b) = is_narrower defs a b
is_narrower defs (ty.non_null a) b = is_narrower defs a b
is_narrower defs (ty.list a) (ty.list b) = is_narrower defs a b
is_narrower defs (ty.named a) (ty.named b) = is_narrower_name defs a b
is_narrower defs a b = false

abbrev pub same_type : Ty → Ty → Bool
same_type (ty.named a) (ty.named b) = bytes_eq a b
same_type (ty.list a) (ty.list b) = same_type a b
same_type (ty.non_null a) (ty.non_null b) = same_type a b
same_type a b = false

abbrev pub field_found : List FieldAt → Text → Option FieldAt
field_found [] n = None
field_found (f ∷ fs) n = cond (bytes_eq f.name.name n) (Some f) (field_found fs n)

abbrev pub input_found : List InputAt → Text → Option InputAt
input_found [] n = None
input_found (i ∷ is) n = cond (bytes_eq i.name.name n) (Some i) (input_found is n)

abbrev pub argument_differs : (lacks : ℕ) → Option InputAt → InputTree → List ℕ
argument_differs lacks None wanted = lacks ∷ []
argument_differs lacks (Some i) wanted = wrong (not (same_type i.of.of (ty_of wanted.of))) i.of.at

abbrev pub arguments_lack : FieldAt → InputTree → List ℕ
arguments_lack f wanted = argument_differs f.name.at (input_found f.arguments wanted.name) wanted

abbrev pub is_required_at : InputAt → Bool
is_required_at i = is_non_null i.of.of && not (is_some i.default)

abbrev pub further_argument : List InputTree → InputAt → List ℕ
further_argument wanted i = wrong (is_required_at i && not (is_some (input_named wanted i.name.name))) i.name.at

abbrev pub field_differs : Defs → (lacks : ℕ) → Option FieldAt → FieldTree → List ℕ
field_differs defs lacks None wanted = lacks ∷ []
field_differs defs lacks (Some f) wanted =
    wrong (not (is_narrower defs f.of.of (ty_of wanted.of))) f.of.at ++ each (arguments_lack f) wanted.arguments
    ++ each (further_argument wanted.arguments) f.arguments

abbrev pub lacks_of_interface : Defs → Located → List FieldAt → Located → List ℕ
lacks_of_interface defs type fs i =
    each (λ (wanted : FieldTree). field_differs defs type.at (field_found fs wanted.name) wanted) (fields_named (type_named defs i.name))

abbrev pub not_implemented_in : Defs → DefAt → List ℕ
not_implemented_in defs (object n is fs) = each (lacks_of_interface defs n fs) is
not_implemented_in defs (interface n is fs) = each (lacks_of_interface defs n fs) is
not_implemented_in defs d = []

abbrev pub interfaces_not_implemented : Defs → List DefAt → List ℕ
interfaces_not_implemented defs ds = each (not_implemented_in defs) ds

-- ---- S9: objects, interfaces, inputs and enums have a member; unions have one, and all are object types

abbrev pub empty_in : Defs → DefAt → List ℕ
empty_in defs (object n is fs) = wrong (is_empty fs) n.at
empty_in defs (interface n is fs) = wrong (is_empty fs) n.at
empty_in defs (input n fs) = wrong (is_empty fs) n.at
empty_in defs (enum n vs) = wrong (is_empty vs) n.at
empty_in defs (union n ms) = wrong (is_empty ms) n.at ++ each (not_object defs) ms
empty_in defs d = []

abbrev pub members_missing : Defs → List DefAt → List ℕ
members_missing defs ds = each (empty_in defs) ds

-- ---- S10: no input type needs itself through non-null fields that are not lists

-- the type that a field of this type needs
abbrev pub needed_type : Ty → Option Text
needed_type (ty.non_null (ty.named n)) = Some n
needed_type t = None

abbrev pub needs_of : Option (List InputTree) → List Text
needs_of None = []
needs_of (Some is) = filter_map (λ (i : InputTree). needed_type (ty_of i.of)) is

abbrev pub needs : Defs → Text → List Text
needs defs n = needs_of (inputs_of defs n)

-- whether a type that it needs is the type, or leads back to it; a chain without repetition has no more types than there are
-- definitions
abbrev pub needs_itself : Defs → DefAt → List ℕ
needs_itself defs (input n fs) = wrong (any_leads (needs defs) (length defs) (needs defs n.name) n.name) n.at
needs_itself defs d = []

abbrev pub inputs_need_themselves : Defs → List DefAt → List ℕ
inputs_need_themselves defs ds = each (needs_itself defs) ds

-- ---- S11: default values fit

abbrev pub default_wrong_of : Defs → InputAt → Option Val → List ℕ
default_wrong_of defs i None = []
default_wrong_of defs i (Some v) = wrong (not (literal_fits defs v i.of.of)) i.name.at

abbrev pub default_wrong : Defs → InputAt → List ℕ
default_wrong defs i = default_wrong_of defs i i.default

abbrev pub defaults_wrong : Defs → List DefAt → List ℕ
defaults_wrong defs ds = each (λ d. each (default_wrong defs) (inputs_in d)) ds

-- ---- S12: no field has a composite type inside more than one list

abbrev pub list_depth : Ty → ℕ
list_depth (ty.named n) = 0
list_depth (ty.list t) = 1 + list_depth t
list_depth (ty.non_null t) = list_depth t

abbrev pub in_lists : Defs → FieldAt → List ℕ
in_lists defs f = wrong (nat_lt 1 (list_depth f.of.of) && is_composite defs (base_of f.of.of)) f.of.at

abbrev pub composites_in_lists : Defs → List DefAt → List ℕ
composites_in_lists defs ds = each (λ d. each (in_lists defs) (fields_in d)) ds

-- the rules in their order; `ds` are the definitions that have an effect
abbrev pub rules : Defs → List DefAt → List (Rule × List ℕ)
rules defs ds =
    (R.S1, names_not_unique ds) ∷ (R.S2, types_not_defined defs ds) ∷ (R.S3, root_types_wrong defs ds) ∷ (R.S4, names_reserved ds)
    ∷ (R.S5, members_not_unique ds) ∷ (R.S6, kinds_wrong defs ds) ∷ (R.S7, interfaces_wrong defs ds) ∷ (R.S8, interfaces_not_implemented defs ds)
    ∷ (R.S9, members_missing defs ds) ∷ (R.S10, inputs_need_themselves defs ds) ∷ (R.S11, defaults_wrong defs ds) ∷ (R.S12, composites_in_lists defs ds) ∷ []
