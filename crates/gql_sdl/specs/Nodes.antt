-- How many nodes a schema has: each definition with its members, and each name that is written in it. Descriptions are none.
use Rattle.std.specs.Prelude.{ℕ, ◌+◌, List, [], ◌∷◌, length}
use Rattle.gql_syntax.specs.gql_ast.TypeView.{ty_of}
use Rattle.gql_syntax.specs.gql_ast.declared.member.EnumValue.{EnumValue}
use Rattle.gql_syntax.specs.gql_ast.declared.member.FieldTree.{FieldTree}
use Rattle.gql_syntax.specs.gql_ast.declared.member.InputTree.{InputTree}
use Rattle.gql_syntax.specs.gql_ast.declared.schema.Root.{Root}
use Rattle.gql_syntax.specs.gql_ast.declared.schema.SchemaDef.{SchemaDef}
use Rattle.gql_syntax.specs.gql_ast.declared.schema.SchemaDef.TheVariants as S
use Rattle.gql_syntax.specs.gql_ast.declared.schema.SchemaTree.{SchemaTree}
use Rattle.gql_syntax.specs.Nodes.{directives_nodes, type_nodes, default_nodes}

-- each input, field and enum value with its name
abbrev pub inputs_nodes : List InputTree → ℕ
inputs_nodes [] = 0
inputs_nodes (i ∷ more) = 2 + type_nodes (ty_of i.of) + default_nodes i.default + directives_nodes i.directives + inputs_nodes more

abbrev pub fields_nodes : List FieldTree → ℕ
fields_nodes [] = 0
fields_nodes (f ∷ fs) = 2 + inputs_nodes f.arguments + type_nodes (ty_of f.of) + directives_nodes f.directives + fields_nodes fs

abbrev pub enum_values_nodes : List EnumValue → ℕ
enum_values_nodes [] = 0
enum_values_nodes (v ∷ vs) = 2 + directives_nodes v.directives + enum_values_nodes vs

-- each root with the name of its type
abbrev pub roots_nodes : List Root → ℕ
roots_nodes [] = 0
roots_nodes (r ∷ rs) = 2 + roots_nodes rs

-- each definition but that of the schema has a name; the names of interfaces and of members are nodes, and locations are none
abbrev pub definition_nodes : SchemaDef → ℕ
definition_nodes (S.Schema ds rs) = 1 + directives_nodes ds + roots_nodes rs
definition_nodes (S.Scalar n ds) = 2 + directives_nodes ds
definition_nodes (S.Object n is ds fs) = 2 + length is + directives_nodes ds + fields_nodes fs
definition_nodes (S.Interface n is ds fs) = 2 + length is + directives_nodes ds + fields_nodes fs
definition_nodes (S.Union n ds ms) = 2 + directives_nodes ds + length ms
definition_nodes (S.Enum n ds vs) = 2 + directives_nodes ds + enum_values_nodes vs
definition_nodes (S.Input n ds ws) = 2 + directives_nodes ds + inputs_nodes ws
definition_nodes (S.Directive n ws repeatable ls) = 2 + inputs_nodes ws

abbrev pub definitions_nodes : List SchemaDef → ℕ
definitions_nodes [] = 0
definitions_nodes (d ∷ ds) = definition_nodes d + definitions_nodes ds

abbrev pub schema_nodes : SchemaTree → ℕ
schema_nodes s = 1 + definitions_nodes s.definitions
