-- Which definition a name is that of.
use Rattle.std.specs.Prelude.{Bool, true, false, bytes_eq}
use Rattle.gql_ast.specs.declared.schema.SchemaDef.{SchemaDef}
use Rattle.gql_ast.specs.declared.schema.SchemaDef.TheVariants as S
use Rattle.schema_tables.specs.Types.{Text, type_of, is_of}

-- whether a definition defines the type of that name
abbrev pub is_type : Text → SchemaDef → Bool
is_type n d = is_of n (type_of d)

-- whether a definition defines the directive of that name
abbrev pub is_directive : Text → SchemaDef → Bool
is_directive n (S.Directive m xs r ls) = bytes_eq m n
is_directive n d = false

-- whether a definition is the `schema` definition
abbrev pub is_schema : SchemaDef → Bool
is_schema (S.Schema ds rs) = true
is_schema d = false
