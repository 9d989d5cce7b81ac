-- The rules on arguments, directives and variables (GraphQL, October 2021, sections 5.4, 5.6, 5.7, 5.8). Each is the list of the places
-- where it does not hold.
use Rattle.std.specs.Prelude.{ℕ, ◌+◌, Bool, true, false, not, ◌&&◌, ◌||◌, cond, List, [], ◌∷◌, ◌++◌, map, length, codes, Option, Some, None, option_map, is_some, bytes_eq}
use Rattle.std.specs.List.{list_any, filter}
use Rattle.schema_rules.specs.gql_plain.Order.{has_text}
use Rattle.schema_rules.specs.gql_ast.Ty.{Ty}
use Rattle.schema_rules.specs.gql_ast.TypeView.{ty_of}
use Rattle.schema_rules.specs.gql_ast.Value.{Val, Vals, Members, variable, null, list, object, no_vals, val, no_members, member}
use Rattle.schema_rules.specs.gql_ast.declared.document.Kind.{Kind}
use Rattle.schema_rules.specs.gql_ast.declared.document.Kind.TheVariants.{Query, Mutation, Subscription}
use Rattle.schema_rules.specs.gql_ast.declared.location.Location.{Location}
use Rattle.schema_rules.specs.gql_ast.declared.location.Location.TheVariants as L
use Rattle.schema_rules.specs.gql_ast.declared.member.FieldTree.{FieldTree}
use Rattle.schema_rules.specs.gql_ast.declared.member.InputTree.{InputTree}
use Rattle.schema_rules.specs.schema_tables.BuiltIn as known
use Rattle.schema_rules.specs.schema_tables.Fits.{item_of, has_member, literal_fits, use_allowed}
use Rattle.schema_rules.specs.schema_tables.Given.{must_be_given}
use Rattle.schema_rules.specs.schema_trees.Located.{Located, value_nodes}
use Rattle.schema_types.specs.NameRules.{operations, fragments, spreads_in, names_of_all, spread_by}
use Rattle.schema_rules.specs.gql_graph.Reached.{any_leads}
use Rattle.schema_rules.specs.Rules.{each, wrong, repeated_names}
use Rattle.schema_types.specs.Sites.{ValueAt, ArgumentAt, DirectiveAt, VariableAt, Site, field, spread, inline, OperationAt, FragmentAt, DefinitionAt, operation, fragment, typename}
use Rattle.schema_rules.specs.schema_tables.Types.{Text, Defs, base_of, kind_of, is_kind, is_input_kind, field_on, inputs_of, input_named}
use Rattle.schema_rules.specs.schema_tables.Views.{DirectiveDef}
use Rattle.schema_rules.specs.schema_tables.Views.{InputDef}

-- ---- arguments as they are given to a field or a directive, and what that takes

pub data Takes : Type 0 where
  -- these arguments
  inputs : List InputDef → Takes
  -- any argument
  free : Takes
  -- it is not known what it takes
  unknown : Takes

pub record Call : Type 0 where
  -- the name of the field or of the directive
  pub name : Located
  pub takes : Takes
  pub arguments : List ArgumentAt

abbrev pub takes_of_field : Option FieldTree → Takes
takes_of_field None = unknown
takes_of_field (Some f) = inputs (map (λ (i : InputTree). record { name = i.name; of = i.of; default = i.default }) f.arguments)

abbrev pub field_takes : Defs → (around : Option Text) → Text → Takes
field_takes defs None n = unknown
field_takes defs (Some of) n = cond (bytes_eq n typename) (inputs []) (takes_of_field (field_on defs of n))

abbrev pub takes_of_directive : Option DirectiveDef → Takes
takes_of_directive None = unknown
takes_of_directive (Some d) = inputs d.arguments

-- `@arguments` and `@argumentDefinitions` take any argument
abbrev pub is_free : Text → Bool
is_free n = bytes_eq n (codes "arguments") || bytes_eq n (codes "argumentDefinitions")

abbrev pub directive_takes : Defs → Text → Takes
directive_takes defs n = cond (is_free n) free (takes_of_directive (known.directive defs n))

abbrev pub directive_call : Defs → DirectiveAt → Call
directive_call defs d = record { name = d.name; takes = directive_takes defs d.name.name; arguments = d.arguments }

abbrev pub directive_calls : Defs → List DirectiveAt → List Call
directive_calls defs ds = map (directive_call defs) ds

abbrev pub calls_at : Defs → Site → List Call
calls_at defs (field around a n xs ds has_set) = record { name = n; takes = field_takes defs around n.name; arguments = xs } ∷ directive_calls defs ds
calls_at defs (spread around n ds) = directive_calls defs ds
calls_at defs (inline around first on ds) = directive_calls defs ds

abbrev pub variable_calls : Defs → List VariableAt → List Call
variable_calls defs vs = each (λ (v : VariableAt). directive_calls defs v.directives) vs

-- the calls in an operation or a fragment, those in its variables apart
abbrev pub calls_in : Defs → (directives : List DirectiveAt) → List Site → List Call
calls_in defs ds ss = directive_calls defs ds ++ each (calls_at defs) ss

abbrev pub calls_of : Defs → DefinitionAt → List Call
calls_of defs (operation o) = variable_calls defs o.variables ++ calls_in defs o.directives o.sites
calls_of defs (fragment f) = calls_in defs f.directives f.sites

-- ---- V12 (5.4.1, 5.4.2): arguments are defined and differ

abbrev pub input_def_named : List InputDef → Text → Option InputDef
input_def_named [] n = None
input_def_named (i ∷ is) n = cond (bytes_eq i.name n) (Some i) (input_def_named is n)

abbrev pub argument_names : List ArgumentAt → List Located
argument_names xs = map (λ (a : ArgumentAt). a.name) xs

abbrev pub not_taken : Takes → Located → List ℕ
not_taken (inputs is) n = wrong (not (is_some (input_def_named is n.name))) n.at
not_taken free n = []
not_taken unknown n = []

abbrev pub arguments_of_call_wrong : Call → List ℕ
arguments_of_call_wrong c = each (not_taken c.takes) (argument_names c.arguments) ++ repeated_names (argument_names c.arguments)

abbrev pub arguments_wrong : Defs → List DefinitionAt → List ℕ
arguments_wrong defs ds = each (λ d. each arguments_of_call_wrong (calls_of defs d)) ds

-- ---- V13 (5.4.2.1): an argument of non-null type without default is given, and not as `null`

abbrev pub is_null : Val → Bool
is_null null = true
is_null v = false

abbrev pub is_given : List ArgumentAt → Text → Bool
is_given xs n = list_any (λ (a : ArgumentAt). bytes_eq a.name.name n && not (is_null a.value.of)) xs

abbrev pub leaves_out : List ArgumentAt → InputDef → Bool
leaves_out xs i = must_be_given i && not (is_given xs i.name)

abbrev pub is_incomplete : Takes → List ArgumentAt → Bool
is_incomplete (inputs is) xs = list_any (leaves_out xs) is
is_incomplete free xs = false
is_incomplete unknown xs = false

abbrev pub argument_missing : Call → List ℕ
argument_missing c = wrong (is_incomplete c.takes c.arguments) c.name.at

abbrev pub arguments_missing : Defs → List DefinitionAt → List ℕ
arguments_missing defs ds = each (λ d. each argument_missing (calls_of defs d)) ds

-- ---- V14 (5.6): literals fit, and the names of each object differ

abbrev mutual
  pub names_differ : Val → Bool
  names_differ (list vs) = names_differ_in vs
  names_differ (object ms) = names_differ_among ms
  names_differ v = true

  pub names_differ_in : Vals → Bool
  names_differ_in no_vals = true
  names_differ_in (val v vs) = names_differ v && names_differ_in vs

  pub names_differ_among : Members → Bool
  names_differ_among no_members = true
  names_differ_among (member n v ms) = not (has_member n ms) && names_differ v && names_differ_among ms

abbrev pub is_good_value : Defs → Ty → Val → Bool
is_good_value defs t v = literal_fits defs v t && names_differ v

abbrev pub is_good_for : Defs → Option InputDef → Val → Bool
is_good_for defs None v = names_differ v
is_good_for defs (Some i) v = is_good_value defs (ty_of i.of) v

abbrev pub is_good_argument : Defs → Takes → Text → Val → Bool
is_good_argument defs (inputs is) n v = is_good_for defs (input_def_named is n) v
is_good_argument defs free n v = true
is_good_argument defs unknown n v = names_differ v

abbrev pub argument_unfit : Defs → Takes → ArgumentAt → List ℕ
argument_unfit defs t a = wrong (not (is_good_argument defs t a.name.name a.value.of)) a.value.at

abbrev pub arguments_unfit : Defs → Call → List ℕ
arguments_unfit defs c = each (argument_unfit defs c.takes) c.arguments

abbrev pub is_input_type : Defs → Ty → Bool
is_input_type defs t = is_kind is_input_kind (kind_of defs (base_of t))

-- a default is judged where the type names an input type
abbrev pub default_unfit : Defs → Ty → Option ValueAt → List ℕ
default_unfit defs t None = []
default_unfit defs t (Some v) = wrong (is_input_type defs t && not (is_good_value defs t v.of)) v.at

abbrev pub defaults_unfit : Defs → DefinitionAt → List ℕ
defaults_unfit defs (operation o) = each (λ (v : VariableAt). default_unfit defs (ty_of v.defined.of) v.default) o.variables
defaults_unfit defs (fragment f) = []

abbrev pub literals_unfit : Defs → List DefinitionAt → List ℕ
literals_unfit defs ds = each (λ d. defaults_unfit defs d ++ each (arguments_unfit defs) (calls_of defs d)) ds

-- ---- V15 (5.7): directives are known, stand where they may, and stand once where they are not repeatable

-- the directives of one node, and its kind
pub record Directed : Type 0 where
  pub location : Location
  pub directives : List DirectiveAt

abbrev pub location_of : Kind → Location
location_of Query = L.Query
location_of Mutation = L.Mutation
location_of Subscription = L.Subscription

abbrev pub directed_at : Site → Directed
directed_at (field around a n xs ds has_set) = record { location = L.Field; directives = ds }
directed_at (spread around n ds) = record { location = L.FragmentSpread; directives = ds }
directed_at (inline around first on ds) = record { location = L.InlineFragment; directives = ds }

abbrev pub directed_variable : VariableAt → Directed
directed_variable v = record { location = L.VariableDefinition; directives = v.directives }

abbrev pub directed_in : DefinitionAt → List Directed
directed_in (operation o) =
    map directed_variable o.variables ++ (record { location = location_of o.kind; directives = o.directives } ∷ map directed_at o.sites)
directed_in (fragment f) = record { location = L.FragmentDefinition; directives = f.directives } ∷ map directed_at f.sites

abbrev pub same_location : Location → Location → Bool
same_location L.Query L.Query = true
same_location L.Mutation L.Mutation = true
same_location L.Subscription L.Subscription = true
same_location L.Field L.Field = true
same_location L.FragmentDefinition L.FragmentDefinition = true
same_location L.FragmentSpread L.FragmentSpread = true
same_location L.InlineFragment L.InlineFragment = true
same_location L.VariableDefinition L.VariableDefinition = true
same_location a b = false

abbrev pub may_stand : Location → Option DirectiveDef → Bool
may_stand l None = false
may_stand l (Some d) = list_any (λ one. same_location one l) d.locations

abbrev pub stands_wrong : Defs → Location → DirectiveAt → List ℕ
stands_wrong defs l d = wrong (not (may_stand l (known.directive defs d.name.name))) d.name.at

abbrev pub stands_once : Option DirectiveDef → Bool
stands_once None = false
stands_once (Some d) = not d.repeatable

-- the names of those that may not stand twice
abbrev pub names_once : Defs → List DirectiveAt → List Located
names_once defs ds = filter (λ (n : Located). stands_once (known.directive defs n.name)) (map (λ (d : DirectiveAt). d.name) ds)

abbrev pub directed_wrong : Defs → Directed → List ℕ
directed_wrong defs d = each (stands_wrong defs d.location) d.directives ++ repeated_names (names_once defs d.directives)

abbrev pub directives_wrong : Defs → List DefinitionAt → List ℕ
directives_wrong defs ds = each (λ d. each (directed_wrong defs) (directed_in d)) ds

-- ---- V16 (5.8.1, 5.8.2, 5.8.3, 5.8.5): variables differ and have input types; each that is used in an operation, and in the fragments that it
-- reaches, is defined there if it is no local one, and its use is allowed

-- a place for values: its type, and whether it has a default
abbrev pub Place : Type 0
Place = Ty × Bool

abbrev pub item_place : Option Place → Option Place
item_place None = None
item_place (Some p) = option_map (λ t. (t, false)) (item_of p.0)

abbrev pub place_of_input : Option InputTree → Option Place
place_of_input None = None
place_of_input (Some i) = Some (ty_of i.of, is_some i.default)

abbrev pub place_among : Option (List InputTree) → Text → Option Place
place_among None n = None
place_among (Some is) n = place_of_input (input_named is n)

abbrev pub fields_at : Defs → Option Place → Option (List InputTree)
fields_at defs None = None
fields_at defs (Some p) = inputs_of defs (base_of p.0)

-- a variable where it is used, and the place, where that has a type
pub record Use : Type 0 where
  pub name : Located
  pub place : Option Place

abbrev mutual
  pub uses_in : Defs → (from : ℕ) → Val → Option Place → List Use
  uses_in defs from (variable n) p = record { name = record { name = n; at = from + 1 }; place = p } ∷ []
  uses_in defs from (list vs) p = uses_in_items defs (from + 1) vs (item_place p)
  uses_in defs from (object ms) p = uses_in_members defs (from + 1) ms (fields_at defs p)
  uses_in defs from v p = []

  pub uses_in_items : Defs → (from : ℕ) → Vals → Option Place → List Use
  uses_in_items defs from no_vals p = []
  uses_in_items defs from (val v vs) p = uses_in defs from v p ++ uses_in_items defs (from + value_nodes v) vs p

  pub uses_in_members : Defs → (from : ℕ) → Members → Option (List InputTree) → List Use
  uses_in_members defs from no_members is = []
  uses_in_members defs from (member n v ms) is =
      uses_in defs (from + 2) v (place_among is n) ++ uses_in_members defs (from + (2 + value_nodes v)) ms is

abbrev pub place_for : Option InputDef → Option Place
place_for None = None
place_for (Some i) = Some (ty_of i.of, is_some i.default)

abbrev pub place_of_argument : Takes → Text → Option Place
place_of_argument (inputs is) n = place_for (input_def_named is n)
place_of_argument free n = None
place_of_argument unknown n = None

abbrev pub uses_of_argument : Defs → Takes → ArgumentAt → List Use
uses_of_argument defs t a = uses_in defs a.value.at a.value.of (place_of_argument t a.name.name)

abbrev pub uses_of_call : Defs → Call → List Use
uses_of_call defs c = each (uses_of_argument defs c.takes) c.arguments

abbrev pub uses_of : Defs → (directives : List DirectiveAt) → List Site → List Use
uses_of defs ds ss = each (uses_of_call defs) (calls_in defs ds ss)

-- the local variables of a fragment: the names of the arguments of its `@argumentDefinitions`
abbrev pub locals_in : DirectiveAt → List Text
locals_in d = cond (bytes_eq d.name.name (codes "argumentDefinitions")) (names_of_all (argument_names d.arguments)) []

abbrev pub local_names : FragmentAt → List Text
local_names f = each locals_in f.directives

abbrev pub variable_named : List VariableAt → Text → Option VariableAt
variable_named [] n = None
variable_named (v ∷ vs) n = cond (bytes_eq v.name.name n) (Some v) (variable_named vs n)

abbrev pub is_allowed_at : VariableAt → Option Place → Bool
is_allowed_at v None = true
is_allowed_at v (Some p) = use_allowed (ty_of v.defined.of) v.defined.default p.0 p.1

abbrev pub is_allowed : Option VariableAt → Option Place → Bool
is_allowed None p = false
is_allowed (Some v) p = is_allowed_at v p

abbrev pub use_wrong : List VariableAt → (locals : List Text) → Use → List ℕ
use_wrong vs locals u = wrong (not (has_text locals u.name.name) && not (is_allowed (variable_named vs u.name.name) u.place)) u.name.at

abbrev pub not_input : Defs → VariableAt → List ℕ
not_input defs v = wrong (not (is_input_type defs (ty_of v.defined.of))) v.name.at

-- the uses in a fragment that an operation reaches
abbrev pub uses_wrong_in : Defs → List FragmentAt → OperationAt → FragmentAt → List ℕ
uses_wrong_in defs fs o f =
    cond (any_leads (spread_by fs) (length fs) (names_of_all (spreads_in o.sites)) f.name.name)
    (each (use_wrong o.variables (local_names f)) (uses_of defs f.directives f.sites)) []

abbrev pub variables_of_wrong : Defs → List FragmentAt → OperationAt → List ℕ
variables_of_wrong defs fs o =
    repeated_names (map (λ (v : VariableAt). v.name) o.variables) ++ each (not_input defs) o.variables
    ++ each (use_wrong o.variables []) (uses_of defs o.directives o.sites) ++ each (uses_wrong_in defs fs o) fs

abbrev pub variables_wrong : Defs → List DefinitionAt → List ℕ
variables_wrong defs ds = each (variables_of_wrong defs (fragments ds)) (operations ds)
