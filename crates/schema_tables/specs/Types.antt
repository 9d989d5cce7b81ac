-- What a schema says (GraphQL, October 2021, section 3), from its definitions. Where several define one name, the first counts.
use Rattle.std.specs.Prelude.{Bool, true, false, cond, ◌&&◌, ◌||◌, List, [], ◌∷◌, map, codes, Option, Some, None, option_map, option_and_then, is_some, bytes_eq}
use Rattle.std.specs.List.{filter, filter_map}
use Rattle.gql_graph.specs.gql_plain.Order.{has_text, sorted_texts}
use Rattle.gql_ast.specs.Ty.{Ty, named, list, non_null}
use Rattle.gql_ast.specs.TypeView.{ty_of}
use Rattle.gql_ast.specs.declared.document.Kind.{Kind}
use Rattle.gql_ast.specs.declared.document.Kind.TheVariants.{Query, Mutation, Subscription}
use Rattle.gql_ast.specs.declared.member.EnumValue.{EnumValue}
use Rattle.gql_ast.specs.declared.member.FieldTree.{FieldTree}
use Rattle.gql_ast.specs.declared.member.InputTree.{InputTree}
use Rattle.gql_ast.specs.declared.schema.Root.{Root}
use Rattle.gql_ast.specs.declared.schema.SchemaDef.{SchemaDef}
use Rattle.gql_ast.specs.declared.schema.SchemaDef.TheVariants as S
use Rattle.schema_tables.specs.Views.{FieldDef}
use Rattle.schema_tables.specs.Views.{InputDef}
use Rattle.schema_tables.specs.declared.kind.TypeKind.{TypeKind}
use Rattle.schema_tables.specs.declared.kind.TypeKind.TheVariants.{Scalar, Object, Interface, Union, Enum, Input}
pub use Rattle.gql_graph.specs.Texts.{Text}

abbrev pub Defs : Type 0
Defs = List SchemaDef

-- ---- types

-- the scalars that every schema has (3.5)
abbrev pub built_in_scalars : List Text
built_in_scalars = codes "Int" ∷ codes "Float" ∷ codes "String" ∷ codes "Boolean" ∷ codes "ID" ∷ []

abbrev pub is_built_in_scalar : Text → Bool
is_built_in_scalar n = has_text built_in_scalars n

-- the type that a definition defines, and its kind
abbrev pub type_of : SchemaDef → Option (Text × TypeKind)
type_of (S.Schema ds rs) = None
type_of (S.Scalar n ds) = Some (n, Scalar)
type_of (S.Object n is ds fs) = Some (n, Object)
type_of (S.Interface n is ds fs) = Some (n, Interface)
type_of (S.Union n ds ms) = Some (n, Union)
type_of (S.Enum n ds vs) = Some (n, Enum)
type_of (S.Input n ds fs) = Some (n, Input)
type_of (S.Directive n xs r ls) = None

abbrev pub is_of : Text → Option (Text × TypeKind) → Bool
is_of n None = false
is_of n (Some t) = bytes_eq t.0 n

-- the definition of a type
abbrev pub type_named : Defs → Text → Option SchemaDef
type_named [] n = None
type_named (d ∷ ds) n = cond (is_of n (type_of d)) (Some d) (type_named ds n)

-- the kind of a type that is built in or defined
abbrev pub kind_of : Defs → Text → Option TypeKind
kind_of defs n = cond (is_built_in_scalar n) (Some Scalar) (option_map (λ (t : Text × TypeKind). t.1) (option_and_then type_of (type_named defs n)))

abbrev pub is_leaf_kind : TypeKind → Bool
is_leaf_kind Scalar = true
is_leaf_kind Enum = true
is_leaf_kind k = false

abbrev pub is_composite_kind : TypeKind → Bool
is_composite_kind Object = true
is_composite_kind Interface = true
is_composite_kind Union = true
is_composite_kind k = false

abbrev pub is_input_kind : TypeKind → Bool
is_input_kind Scalar = true
is_input_kind Enum = true
is_input_kind Input = true
is_input_kind k = false

abbrev pub is_output_kind : TypeKind → Bool
is_output_kind Input = false
is_output_kind k = true

abbrev pub is_object_kind : TypeKind → Bool
is_object_kind Object = true
is_object_kind k = false

abbrev pub is_interface_kind : TypeKind → Bool
is_interface_kind Interface = true
is_interface_kind k = false

-- whether a type is there and of such a kind
abbrev pub is_kind : (TypeKind → Bool) → Option TypeKind → Bool
is_kind such None = false
is_kind such (Some k) = such k

-- a scalar or an enum
abbrev pub is_leaf : Defs → Text → Bool
is_leaf defs n = is_kind is_leaf_kind (kind_of defs n)

-- an object, an interface or a union
abbrev pub is_composite : Defs → Text → Bool
is_composite defs n = is_kind is_composite_kind (kind_of defs n)

-- the name inside all lists and non-null forms
abbrev pub base_of : Ty → Text
base_of (named n) = n
base_of (list t) = base_of t
base_of (non_null t) = base_of t

-- ---- fields, inputs and enums

abbrev pub input_def : InputTree → InputDef
input_def i = record { name = i.name; of = i.of; default = i.default }

abbrev pub field_def : FieldTree → FieldDef
field_def f = record { name = f.name; arguments = map input_def f.arguments; of = f.of }

abbrev pub fields_of : SchemaDef → List FieldTree
fields_of (S.Object n is ds fs) = fs
fields_of (S.Interface n is ds fs) = fs
fields_of d = []

abbrev pub fields_named : Option SchemaDef → List FieldTree
fields_named None = []
fields_named (Some d) = fields_of d

abbrev pub field_named : List FieldTree → Text → Option FieldTree
field_named [] n = None
field_named (f ∷ fs) n = cond (bytes_eq f.name n) (Some f) (field_named fs n)

abbrev pub input_named : List InputTree → Text → Option InputTree
input_named [] n = None
input_named (i ∷ is) n = cond (bytes_eq i.name n) (Some i) (input_named is n)

-- the field of that name on the type (3.6, 3.7)
abbrev pub field_on : Defs → (of name : Text) → Option FieldTree
field_on defs of n = option_and_then (λ d. field_named (fields_of d) n) (type_named defs of)

abbrev pub input_fields_of : SchemaDef → Option (List InputTree)
input_fields_of (S.Input n ds fs) = Some fs
input_fields_of d = None

-- the input fields of an input type (3.10)
abbrev pub inputs_of : Defs → Text → Option (List InputTree)
inputs_of defs of = option_and_then input_fields_of (type_named defs of)

abbrev pub names_in_enum : SchemaDef → Option (List Text)
names_in_enum (S.Enum n ds vs) = Some (map (λ (v : EnumValue). v.name) vs)
names_in_enum d = None

-- the names of an enum (3.9)
abbrev pub enum_names : Defs → Text → Option (List Text)
enum_names defs of = option_and_then names_in_enum (type_named defs of)

-- `ID!`
abbrev pub is_id_type : Ty → Bool
is_id_type (non_null (named n)) = bytes_eq n (codes "ID")
is_id_type t = false

abbrev pub is_empty : {A : Type 0} → List A → Bool
is_empty [] = true
is_empty (a ∷ more) = false

abbrev pub is_id_field : Option FieldTree → Bool
is_id_field None = false
is_id_field (Some f) = is_id_type (ty_of f.of) && is_empty f.arguments

-- a type has an id where it has a field `id` of type `ID!` without arguments
abbrev pub has_id : Defs → Text → Bool
has_id defs of = is_id_field (field_on defs of (codes "id"))

-- ---- what a value of an abstract type may be

abbrev pub interfaces_of : SchemaDef → List Text
interfaces_of (S.Object n is ds fs) = is
interfaces_of (S.Interface n is ds fs) = is
interfaces_of d = []

abbrev pub union_members_of : SchemaDef → List Text
union_members_of (S.Union n ds ms) = ms
union_members_of d = []

abbrev pub interfaces_named : Option SchemaDef → List Text
interfaces_named None = []
interfaces_named (Some d) = interfaces_of d

abbrev pub union_members_named : Option SchemaDef → List Text
union_members_named None = []
union_members_named (Some d) = union_members_of d

-- whether a type says that it implements an interface
abbrev pub implements : Defs → (type interface : Text) → Bool
implements defs type interface = has_text (interfaces_named (type_named defs type)) interface

-- whether an object type is this type, implements this interface, or is held by this union
abbrev pub applies : Defs → (object to : Text) → Bool
applies defs object to = bytes_eq object to || implements defs object to || has_text (union_members_named (type_named defs to)) object

abbrev pub object_name : SchemaDef → Option Text
object_name (S.Object n is ds fs) = Some n
object_name d = None

-- the object types that a type may be, in byte order
abbrev pub possible : Defs → Text → List Text
possible defs to = sorted_texts (filter (λ object. applies defs object to) (filter_map object_name defs))

-- ---- root types (3.3.1)

abbrev pub same_kind : Kind → Kind → Bool
same_kind Query Query = true
same_kind Mutation Mutation = true
same_kind Subscription Subscription = true
same_kind a b = false

abbrev pub default_root : Kind → Text
default_root Query = codes "Query"
default_root Mutation = codes "Mutation"
default_root Subscription = codes "Subscription"

abbrev pub root_in : List Root → Kind → Option Text
root_in [] k = None
root_in (r ∷ rs) k = cond (same_kind r.kind k) (Some r.name) (root_in rs k)

-- the roots that a `schema` definition gives, where there is one
abbrev pub roots_of : Defs → Option (List Root)
roots_of [] = None
roots_of (S.Schema ds rs ∷ defs) = Some rs
roots_of (d ∷ defs) = roots_of defs

abbrev pub root_from : Option (List Root) → Defs → Kind → Option Text
root_from (Some rs) defs k = root_in rs k
root_from None defs k = cond (is_some (type_named defs (default_root k))) (Some (default_root k)) None

abbrev pub root : Defs → Kind → Option Text
root defs k = root_from (roots_of defs) defs k
