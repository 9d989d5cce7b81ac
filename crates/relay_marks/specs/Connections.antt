-- Connections: what `@connection` says, and what a connection's type has (after Relay; the field names are those of the Cursor Connections
-- Specification).
use Rattle.std.specs.Prelude.{ℕ, Bool, true, false, not, ◌&&◌, ◌||◌, ◌==◌, cond, List, [], ◌∷◌, ◌++◌, map, codes, Option, Some, None, option_map, bytes_eq}
use Rattle.std.specs.List.{list_all}
use Rattle.gql_syntax.specs.gql_plain.Names.{is_name}
use Rattle.gql_syntax.specs.gql_plain.Order.{has_text, sorted_texts}
use Rattle.gql_syntax.specs.gql_plain.declared.ids.Conn.{Conn}
use Rattle.gql_syntax.specs.gql_ast.TypeView.{ty_of}
use Rattle.gql_syntax.specs.gql_ast.Value.{Val, Vals, text, list, no_vals, val}
use Rattle.gql_syntax.specs.gql_ast.declared.directive.Directive.{Directive}
use Rattle.gql_syntax.specs.gql_ast.declared.selection.Selection.{Selection}
use Rattle.gql_syntax.specs.gql_ast.declared.selection.Selection.TheVariants as S
use Rattle.constant_values.specs.schema_tables.Fits.{is_list_type}
use Rattle.constant_values.specs.schema_tables.Inputs.{must_be_given}
use Rattle.constant_values.specs.schema_trees.Located.{Located}
use Rattle.constant_values.specs.schema_rules.Rules.{each, wrong, is_object}
use Rattle.constant_values.specs.schema_types.Sites.{ArgumentAt, DirectiveAt, Site, field, spread, inline, DefinitionAt}
use Rattle.constant_values.specs.schema_types.NameRules.{sites_of}
use Rattle.constant_values.specs.schema_tables.Types.{Text, Defs, base_of, field_on, field_def, is_leaf, is_composite}
use Rattle.constant_values.specs.schema_tables.Views.{FieldDef, InputDef}

abbrev pub is_connection_name : Text → Bool
is_connection_name n = bytes_eq n (codes "connection")

-- the value of the argument of a name, where it is given
abbrev pub value_named : List ArgumentAt → Text → Option Val
value_named [] n = None
value_named (x ∷ xs) n = cond (bytes_eq x.name.name n) (Some x.value.of) (value_named xs n)

-- ---- V21: the key of a connection, and its filters

-- an underscore and the response key, and nothing behind
abbrev pub ends_as_key : (response : Text) → Text → Bool
ends_as_key response [] = false
ends_as_key response (b ∷ bs) = ((b == 95) && bytes_eq bs response) || ends_as_key response bs

-- with something in front
abbrev pub has_front : (response : Text) → Text → Bool
has_front response [] = false
has_front response (b ∷ bs) = ends_as_key response bs

abbrev pub is_key : (response : Text) → Text → Bool
is_key response k = is_name k && has_front response k

abbrev pub is_good_key : (response : Text) → Option Val → Bool
is_good_key response (Some (text k)) = is_key response k
is_good_key response v = false

abbrev pub argument_names : Option FieldDef → List Text
argument_names None = []
argument_names (Some f) = map (λ (i : InputDef). i.name) f.arguments

abbrev pub is_among : List Text → Val → Bool
is_among ns (text t) = has_text ns t
is_among ns v = false

abbrev pub are_among : List Text → Vals → Bool
are_among ns no_vals = true
are_among ns (val v vs) = is_among ns v && are_among ns vs

abbrev pub are_good_filters : List Text → Option Val → Bool
are_good_filters ns None = true
are_good_filters ns (Some (list vs)) = are_among ns vs
are_good_filters ns (Some v) = false

abbrev pub response_key : Option Located → Located → Text
response_key None n = n.name
response_key (Some al) n = al.name

-- the definition of a field, where the type around it is known and has it
abbrev pub field_defined : Defs → (around : Option Text) → Text → Option FieldDef
field_defined defs None n = None
field_defined defs (Some of) n = option_map field_def (field_on defs of n)

abbrev pub is_good_connection : (response : Text) → Option FieldDef → List ArgumentAt → Bool
is_good_connection response f xs = is_good_key response (value_named xs (codes "key")) && are_good_filters (argument_names f) (value_named xs (codes "filters"))

abbrev pub key_wrong : (response : Text) → Option FieldDef → DirectiveAt → List ℕ
key_wrong response f d = cond (is_connection_name d.name.name) (wrong (not (is_good_connection response f d.arguments)) d.name.at) []

abbrev pub key_wrong_at : Defs → Site → List ℕ
key_wrong_at defs (field around al n xs ds has_set) = each (key_wrong (response_key al n) (field_defined defs around n.name)) ds
key_wrong_at defs (spread around n ds) = []
key_wrong_at defs (inline around first on ds) = []

abbrev pub keys_wrong : Defs → List DefinitionAt → List ℕ
keys_wrong defs ds = each (λ d. each (key_wrong_at defs) (sites_of d)) ds

-- ---- V22: what a connection is

abbrev pub needs_nothing : FieldDef → Bool
needs_nothing f = list_all (λ (i : InputDef). not (must_be_given i)) f.arguments

abbrev pub of_name : FieldDef → Text
of_name f = base_of (ty_of f.of)

abbrev pub is_single : FieldDef → Bool
is_single f = not (is_list_type (ty_of f.of))

-- a field that needs no argument, of leaves that are no Float
abbrev pub is_page_leaf : Defs → Option FieldDef → Bool
is_page_leaf defs None = false
is_page_leaf defs (Some f) = needs_nothing f && is_leaf defs (of_name f) && not (bytes_eq (of_name f) (codes "Float"))

abbrev pub is_node : Defs → Option FieldDef → Bool
is_node defs None = false
is_node defs (Some f) = needs_nothing f && is_composite defs (of_name f) && is_single f

-- the field of a name on a type
abbrev pub on : Defs → (of name : Text) → Option FieldDef
on defs of n = option_map field_def (field_on defs of n)

abbrev pub is_edge : Defs → Text → Bool
is_edge defs t = is_object defs t && is_node defs (on defs t (codes "node")) && is_page_leaf defs (on defs t (codes "cursor"))

abbrev pub are_edges : Defs → Option FieldDef → Bool
are_edges defs None = false
are_edges defs (Some f) = needs_nothing f && not (is_single f) && is_edge defs (of_name f)

abbrev pub is_page : Defs → Text → Bool
is_page defs t =
    is_object defs t && is_page_leaf defs (on defs t (codes "hasNextPage")) && is_page_leaf defs (on defs t (codes "hasPreviousPage"))
    && is_page_leaf defs (on defs t (codes "startCursor")) && is_page_leaf defs (on defs t (codes "endCursor"))

abbrev pub is_page_info : Defs → Option FieldDef → Bool
is_page_info defs None = false
is_page_info defs (Some f) = needs_nothing f && is_single f && is_page defs (of_name f)

abbrev pub is_connection_type : Defs → Text → Bool
is_connection_type defs t = is_object defs t && are_edges defs (on defs t (codes "edges")) && is_page_info defs (on defs t (codes "pageInfo"))

abbrev pub is_connection : Defs → Option FieldDef → Bool
is_connection defs None = false
is_connection defs (Some f) = is_single f && is_connection_type defs (of_name f)

abbrev pub type_wrong : Defs → Option FieldDef → DirectiveAt → List ℕ
type_wrong defs f d = cond (is_connection_name d.name.name) (wrong (not (is_connection defs f)) d.name.at) []

abbrev pub type_wrong_at : Defs → Site → List ℕ
type_wrong_at defs (field around al n xs ds has_set) = each (type_wrong defs (field_defined defs around n.name)) ds
type_wrong_at defs (spread around n ds) = []
type_wrong_at defs (inline around first on ds) = []

abbrev pub connections_wrong : Defs → List DefinitionAt → List ℕ
connections_wrong defs ds = each (λ d. each (type_wrong_at defs) (sites_of d)) ds

-- ---- what the `@connection` of a selection says

abbrev pub value_of_name : List (Text × Val) → Text → Option Val
value_of_name [] n = None
value_of_name (a ∷ xs) n = cond (bytes_eq a.0 n) (Some a.1) (value_of_name xs n)

-- a key that is no text is the empty one; V21 refuses it
abbrev pub key_of_value : Option Val → Text
key_of_value (Some (text k)) = k
key_of_value v = []

abbrev pub text_in : Val → List Text
text_in (text t) = t ∷ []
text_in v = []

abbrev pub texts_in : Vals → List Text
texts_in no_vals = []
texts_in (val v vs) = text_in v ++ texts_in vs

abbrev pub sorted_texts_in : Vals → List Text
sorted_texts_in vs = sorted_texts (texts_in vs)

-- distinct and in byte order; filters that are no list are none, and V21 refuses them
abbrev pub filters_of_value : Option Val → Option (List Text)
filters_of_value (Some (list vs)) = Some (sorted_texts_in vs)
filters_of_value v = None

abbrev pub connection_from : List (Text × Val) → Conn
connection_from xs = record { key = key_of_value (value_of_name xs (codes "key")); filters = filters_of_value (value_of_name xs (codes "filters")) }

abbrev pub connection_among : List Directive → Option Conn
connection_among [] = None
connection_among (d ∷ ds) = cond (is_connection_name d.name) (Some (connection_from d.arguments)) (connection_among ds)

abbrev pub directives_on : Selection → List Directive
directives_on (S.Field a n xs ds s) = ds
directives_on (S.Spread n ds) = ds
directives_on (S.Inline o ds s) = ds

abbrev pub connection_of : Selection → Option Conn
connection_of s = connection_among (directives_on s)
