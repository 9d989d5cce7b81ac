-- The nodes of a schema are counted in one way, where places are given and where rules number names.
use Rattle.std.proofs.Common.{◌≡◌, ◌+◌, List, [], ◌∷◌, length, Option, Some, None, refl, ap, arith}
use Rattle.gql_parse.specs.gql_ast.Ty as ty
use Rattle.gql_parse.specs.gql_ast.Ty.{Ty}
use Rattle.gql_parse.specs.gql_ast.TypeView.{ty_of}
use Rattle.gql_parse.specs.gql_ast.Value.{Val, Vals, Members, no_vals, val, no_members, member, members_of}
use Rattle.gql_parse.specs.gql_ast.Value as v
use Rattle.gql_parse.specs.gql_ast.ValueView.{value_of}
use Rattle.gql_parse.specs.gql_ast.declared.directive.Directive.{Directive}
use Rattle.gql_parse.specs.gql_ast.declared.member.EnumValue.{EnumValue}
use Rattle.gql_parse.specs.gql_ast.declared.member.FieldTree.{FieldTree}
use Rattle.gql_parse.specs.gql_ast.declared.member.InputTree.{InputTree}
use Rattle.gql_parse.specs.gql_ast.declared.schema.Root.{Root}
use Rattle.gql_parse.specs.gql_ast.declared.schema.SchemaDef.{SchemaDef}
use Rattle.gql_parse.specs.gql_ast.declared.schema.SchemaDef.TheVariants as S
use Rattle.gql_parse.specs.gql_ast.declared.schema.SchemaTree.{SchemaTree}
use Rattle.gql_parse.specs.gql_ast.declared.value.ValueTree.{ValueTree}
use Rattle.schema_types.specs.gql_graph.Texts.{Text}
use Rattle.gql_sdl.specs.Nodes as text
use Rattle.gql_parse.specs.gql_syntax.Nodes as parts
use Rattle.schema_types.specs.schema_trees.Located as rules
use Rattle.schema_types.specs.schema_trees.Numbers as numbers

mutual
  -- values
  pub value_count : (x : Val) → rules.value_nodes x ≡ parts.value_nodes x
  value_count (v.variable n) = refl
  value_count (v.int n) = refl
  value_count (v.text t) = refl
  value_count (v.truth b) = refl
  value_count v.null = refl
  value_count (v.enum n) = refl
  value_count (v.list vs) = ap (λ n. 1 + n) (values_count vs)
  value_count (v.object ms) = ap (λ n. 1 + n) (members_count ms)

  pub values_count : (xs : Vals) → rules.values_nodes xs ≡ parts.values_nodes xs
  values_count no_vals = refl
  values_count (val x xs) = let a = value_count x in let b = values_count xs in omega (arith, a, b)

  pub members_count : (ms : Members) → rules.members_nodes ms ≡ parts.members_nodes ms
  members_count no_members = refl
  members_count (member n x ms) = let a = value_count x in let b = members_count ms in omega (arith, a, b)

-- directives with their arguments
pub directives_count : (ds : List Directive) → rules.directives_nodes ds ≡ parts.directives_nodes ds
directives_count [] = refl
directives_count (d ∷ ds) = let a = members_count (members_of d.arguments) in let b = directives_count ds in omega (arith, a, b)

-- types
pub type_count : (t : Ty) → rules.type_nodes t ≡ parts.type_nodes t
type_count (ty.named n) = refl
type_count (ty.list t) = ap (λ n. 1 + n) (type_count t)
type_count (ty.non_null t) = ap (λ n. 1 + n) (type_count t)

-- default values
pub default_count : (d : Option ValueTree) → rules.default_nodes d ≡ parts.default_nodes d
default_count None = refl
default_count (Some x) = value_count (value_of x)

-- arguments and input fields
pub inputs_count : (is : List InputTree) → rules.inputs_nodes is ≡ text.inputs_nodes is
inputs_count [] = refl
inputs_count (i ∷ is) =
    let a = type_count (ty_of i.of) in
    let b = default_count i.default in
    let c = directives_count i.directives in
    let d = inputs_count is in
    omega (arith, a, b, c, d)

-- fields
pub fields_count : (fs : List FieldTree) → rules.fields_nodes fs ≡ text.fields_nodes fs
fields_count [] = refl
fields_count (f ∷ fs) =
    let a = inputs_count f.arguments in
    let b = type_count (ty_of f.of) in
    let c = directives_count f.directives in
    let d = fields_count fs in
    omega (arith, a, b, c, d)

-- names of interfaces and of members
pub names_count : (ns : List Text) → rules.names_nodes ns ≡ length ns
names_count [] = refl
names_count (n ∷ ns) = let a = names_count ns in omega (arith, a)

-- enum values
pub enum_values_count : (xs : List EnumValue) → rules.enum_values_nodes xs ≡ text.enum_values_nodes xs
enum_values_count [] = refl
enum_values_count (x ∷ xs) = let a = directives_count x.directives in let b = enum_values_count xs in omega (arith, a, b)

-- roots
pub roots_count : (rs : List Root) → rules.roots_nodes rs ≡ text.roots_nodes rs
roots_count [] = refl
roots_count (r ∷ rs) = let a = roots_count rs in omega (arith, a)

-- one definition
pub definition_count : (d : SchemaDef) → rules.def_nodes d ≡ text.definition_nodes d
definition_count (S.Schema ds rs) = let a = directives_count ds in let b = roots_count rs in omega (arith, a, b)
definition_count (S.Scalar n ds) = let a = directives_count ds in omega (arith, a)
definition_count (S.Object n is ds fs) = let a = names_count is in let b = directives_count ds in let c = fields_count fs in omega (arith, a, b, c)
definition_count (S.Interface n is ds fs) = let a = names_count is in let b = directives_count ds in let c = fields_count fs in omega (arith, a, b, c)
definition_count (S.Union n ds ms) = let a = directives_count ds in let b = names_count ms in omega (arith, a, b)
definition_count (S.Enum n ds vs) = let a = directives_count ds in let b = enum_values_count vs in omega (arith, a, b)
definition_count (S.Input n ds fs) = let a = directives_count ds in let b = inputs_count fs in omega (arith, a, b)
definition_count (S.Directive n xs r ls) = let a = inputs_count xs in omega (arith, a)

-- definitions
pub definitions_count : (ds : List SchemaDef) → numbers.defs_nodes ds ≡ text.definitions_nodes ds
definitions_count [] = refl
definitions_count (d ∷ ds) = let a = definition_count d in let b = definitions_count ds in omega (arith, a, b)

-- a schema
pub schema_count : (s : SchemaTree) → numbers.schema_nodes s.definitions ≡ text.schema_nodes s
schema_count s = ap (λ n. 1 + n) (definitions_count s.definitions)
