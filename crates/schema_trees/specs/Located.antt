-- The definitions of a schema with the places of the names in them: a place is told by its number among the nodes of the tree in
-- text order, from 0.
use Rattle.std.specs.Prelude.{ℕ, ◌+◌, List, [], ◌∷◌, Option, Some, None}
use Rattle.schema_tables.specs.gql_ast.Ty.{Ty, named, list, non_null}
use Rattle.schema_tables.specs.gql_ast.TypeView.{ty_of}
use Rattle.schema_tables.specs.gql_ast.Value.{Val, Vals, Members, no_vals, val, no_members, member, members_of}
use Rattle.schema_tables.specs.gql_ast.Value as v
use Rattle.schema_tables.specs.gql_ast.ValueView.{value_of}
use Rattle.schema_tables.specs.gql_ast.declared.directive.Directive.{Directive}
use Rattle.schema_tables.specs.gql_ast.declared.document.Kind.{Kind}
use Rattle.schema_tables.specs.gql_ast.declared.member.EnumValue.{EnumValue}
use Rattle.schema_tables.specs.gql_ast.declared.member.FieldTree.{FieldTree}
use Rattle.schema_tables.specs.gql_ast.declared.member.InputTree.{InputTree}
use Rattle.schema_tables.specs.gql_ast.declared.schema.Root.{Root}
use Rattle.schema_tables.specs.gql_ast.declared.schema.SchemaDef.{SchemaDef}
use Rattle.schema_tables.specs.gql_ast.declared.schema.SchemaDef.TheVariants as S
use Rattle.schema_tables.specs.gql_ast.declared.value.ValueTree.{ValueTree}
use Rattle.schema_tables.specs.gql_graph.Texts.{Text}

-- ---- how many nodes a tree has

abbrev mutual
  pub value_nodes : Val → ℕ
  value_nodes (v.variable n) = 2
  value_nodes (v.int n) = 1
  value_nodes (v.text t) = 1
  value_nodes (v.truth b) = 1
  value_nodes v.null = 1
  value_nodes (v.enum n) = 2
  value_nodes (v.list vs) = 1 + values_nodes vs
  value_nodes (v.object ms) = 1 + members_nodes ms

  pub values_nodes : Vals → ℕ
  values_nodes no_vals = 0
  values_nodes (val x vs) = value_nodes x + values_nodes vs

  pub members_nodes : Members → ℕ
  members_nodes no_members = 0
  members_nodes (member n x ms) = 2 + value_nodes x + members_nodes ms

abbrev pub directives_nodes : List Directive → ℕ
directives_nodes [] = 0
directives_nodes (d ∷ ds) = 2 + members_nodes (members_of d.arguments) + directives_nodes ds

-- a type's name is its last node
abbrev pub type_nodes : Ty → ℕ
type_nodes (named n) = 2
type_nodes (list t) = 1 + type_nodes t
type_nodes (non_null t) = 1 + type_nodes t

abbrev pub default_nodes : Option ValueTree → ℕ
default_nodes None = 0
default_nodes (Some x) = value_nodes (value_of x)

abbrev pub input_nodes : InputTree → ℕ
input_nodes i = 2 + type_nodes (ty_of i.of) + default_nodes i.default + directives_nodes i.directives

abbrev pub inputs_nodes : List InputTree → ℕ
inputs_nodes [] = 0
inputs_nodes (i ∷ is) = input_nodes i + inputs_nodes is

abbrev pub field_nodes : FieldTree → ℕ
field_nodes f = 2 + inputs_nodes f.arguments + type_nodes (ty_of f.of) + directives_nodes f.directives

abbrev pub fields_nodes : List FieldTree → ℕ
fields_nodes [] = 0
fields_nodes (f ∷ fs) = field_nodes f + fields_nodes fs

abbrev pub names_nodes : List Text → ℕ
names_nodes [] = 0
names_nodes (n ∷ ns) = 1 + names_nodes ns

abbrev pub enum_values_nodes : List EnumValue → ℕ
enum_values_nodes [] = 0
enum_values_nodes (x ∷ xs) = 2 + directives_nodes x.directives + enum_values_nodes xs

abbrev pub roots_nodes : List Root → ℕ
roots_nodes [] = 0
roots_nodes (r ∷ rs) = 2 + roots_nodes rs

abbrev pub def_nodes : SchemaDef → ℕ
def_nodes (S.Schema ds rs) = 1 + directives_nodes ds + roots_nodes rs
def_nodes (S.Scalar n ds) = 2 + directives_nodes ds
def_nodes (S.Object n is ds fs) = 2 + names_nodes is + directives_nodes ds + fields_nodes fs
def_nodes (S.Interface n is ds fs) = 2 + names_nodes is + directives_nodes ds + fields_nodes fs
def_nodes (S.Union n ds ms) = 2 + directives_nodes ds + names_nodes ms
def_nodes (S.Enum n ds vs) = 2 + directives_nodes ds + enum_values_nodes vs
def_nodes (S.Input n ds fs) = 2 + directives_nodes ds + inputs_nodes fs
def_nodes (S.Directive n xs r ls) = 2 + inputs_nodes xs

-- ---- names with their places

pub record Located : Type 0 where
  pub name : Text
  pub at : ℕ

-- a type, and the place of its name
pub record TypeAt : Type 0 where
  pub of : Ty
  pub at : ℕ

pub record InputAt : Type 0 where
  pub name : Located
  pub of : TypeAt
  pub default : Option Val

pub record FieldAt : Type 0 where
  pub name : Located
  pub arguments : List InputAt
  pub of : TypeAt

pub record RootAt : Type 0 where
  pub kind : Kind
  pub name : Located

-- a definition; for `schema` the place of its first token
pub data DefAt : Type 0 where
  schema : (at : ℕ) → List RootAt → DefAt
  scalar : Located → DefAt
  object : Located → (interfaces : List Located) → List FieldAt → DefAt
  interface : Located → (interfaces : List Located) → List FieldAt → DefAt
  union : Located → (members : List Located) → DefAt
  enum : Located → (values : List Located) → DefAt
  input : Located → List InputAt → DefAt
  directive : Located → List InputAt → DefAt

abbrev pub type_at : (from : ℕ) → Ty → TypeAt
type_at from t = record { of = t; at = from + type_nodes_before t } where
  type_nodes_before : Ty → ℕ
  type_nodes_before (named n) = 1
  type_nodes_before (list t) = 1 + type_nodes_before t
  type_nodes_before (non_null t) = 1 + type_nodes_before t

abbrev pub default_of : Option ValueTree → Option Val
default_of None = None
default_of (Some x) = Some (value_of x)

abbrev pub input_at : (from : ℕ) → InputTree → InputAt
input_at from i = record { name = record { name = i.name; at = from + 1 }; of = type_at (from + 2) (ty_of i.of); default = default_of i.default }

abbrev pub inputs_at : (from : ℕ) → List InputTree → List InputAt
inputs_at from [] = []
inputs_at from (i ∷ is) = input_at from i ∷ inputs_at (from + input_nodes i) is

abbrev pub field_at : (from : ℕ) → FieldTree → FieldAt
field_at from f = record {
  name = record { name = f.name; at = from + 1 };
  arguments = inputs_at (from + 2) f.arguments;
  of = type_at (from + 2 + inputs_nodes f.arguments) (ty_of f.of);
}

abbrev pub fields_at : (from : ℕ) → List FieldTree → List FieldAt
fields_at from [] = []
fields_at from (f ∷ fs) = field_at from f ∷ fields_at (from + field_nodes f) fs

abbrev pub names_at : (from : ℕ) → List Text → List Located
names_at from [] = []
names_at from (n ∷ ns) = record { name = n; at = from } ∷ names_at (from + 1) ns

abbrev pub enum_values_at : (from : ℕ) → List EnumValue → List Located
enum_values_at from [] = []
enum_values_at from (x ∷ xs) = record { name = x.name; at = from + 1 } ∷ enum_values_at (from + 2 + directives_nodes x.directives) xs

abbrev pub roots_at : (from : ℕ) → List Root → List RootAt
roots_at from [] = []
roots_at from (r ∷ rs) = record { kind = r.kind; name = record { name = r.name; at = from + 1 } } ∷ roots_at (from + 2) rs

abbrev pub name_at : (from : ℕ) → Text → Located
name_at from n = record { name = n; at = from + 1 }

abbrev pub def_at : (from : ℕ) → SchemaDef → DefAt
def_at from (S.Schema ds rs) = schema from (roots_at (from + 1 + directives_nodes ds) rs)
def_at from (S.Scalar n ds) = scalar (name_at from n)
def_at from (S.Object n is ds fs) = object (name_at from n) (names_at (from + 2) is) (fields_at (from + 2 + names_nodes is + directives_nodes ds) fs)
def_at from (S.Interface n is ds fs) = interface (name_at from n) (names_at (from + 2) is) (fields_at (from + 2 + names_nodes is + directives_nodes ds) fs)
def_at from (S.Union n ds ms) = union (name_at from n) (names_at (from + 2 + directives_nodes ds) ms)
def_at from (S.Enum n ds vs) = enum (name_at from n) (enum_values_at (from + 2 + directives_nodes ds) vs)
def_at from (S.Input n ds fs) = input (name_at from n) (inputs_at (from + 2 + directives_nodes ds) fs)
def_at from (S.Directive n xs r ls) = directive (name_at from n) (inputs_at (from + 2) xs)

abbrev pub defs_at : (from : ℕ) → List SchemaDef → List DefAt
defs_at from [] = []
defs_at from (d ∷ ds) = def_at from d ∷ defs_at (from + def_nodes d) ds

-- the definitions of a whole schema, which is a node itself
abbrev pub locate : List SchemaDef → List DefAt
locate ds = defs_at 1 ds
