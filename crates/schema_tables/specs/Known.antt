-- The known directives as trees.
use Rattle.std.specs.Prelude.{false, List, [], ◌∷◌, codes, Option, Some, None}
use Rattle.gql_ast.specs.declared.location.Location.{Location}
use Rattle.gql_ast.specs.declared.location.Location.TheVariants as L
use Rattle.gql_ast.specs.declared.member.InputTree.{InputTree}
use Rattle.gql_ast.specs.declared.schema.SchemaDef.{SchemaDef}
use Rattle.gql_ast.specs.declared.schema.SchemaDef.TheVariants as S
use Rattle.gql_ast.specs.declared.type_tree.TypeTree.{TypeTree}
use Rattle.gql_ast.specs.declared.value.ValueTree.{ValueTree}
use Rattle.gql_ast.specs.declared.value.ValueTree.TheVariants as V
use Rattle.schema_tables.specs.BuiltIn.{required_type, optional_type, list_type, selection_locations}
use Rattle.schema_tables.specs.Types.{Text}

abbrev pub input_tree : Text → TypeTree → Option ValueTree → InputTree
input_tree n t default = record { name = n; of = t; default = default; directives = [] }

abbrev pub directive_tree : Text → List InputTree → List Location → SchemaDef
directive_tree n arguments locations = S.Directive n arguments false locations

abbrev pub condition : List InputTree
condition = input_tree (codes "if") (required_type (codes "Boolean")) None ∷ []

abbrev pub deprecation_reason : InputTree
deprecation_reason = input_tree (codes "reason") (optional_type (codes "String")) (Some (V.Text (codes "No longer supported")))

abbrev pub deprecated : SchemaDef
deprecated =
    directive_tree (codes "deprecated") (deprecation_reason ∷ []) (L.FieldDefinition ∷ L.ArgumentDefinition ∷ L.InputFieldDefinition ∷ L.EnumValue ∷ [])

abbrev pub specified_by : SchemaDef
specified_by = directive_tree (codes "specifiedBy") (input_tree (codes "url") (required_type (codes "String")) None ∷ []) (L.Scalar ∷ [])

abbrev pub connection_filters : InputTree
connection_filters = input_tree (codes "filters") (list_type (codes "String")) None

abbrev pub connection : SchemaDef
connection =
    directive_tree (codes "connection") (input_tree (codes "key") (required_type (codes "String")) None ∷ connection_filters ∷ []) (L.Field ∷ [])

abbrev pub relay : SchemaDef
relay = directive_tree (codes "relay") (input_tree (codes "mask") (required_type (codes "Boolean")) None ∷ []) (L.FragmentSpread ∷ [])

abbrev pub built_in_trees : List SchemaDef
built_in_trees =
    directive_tree (codes "skip") condition selection_locations ∷ directive_tree (codes "include") condition selection_locations ∷ deprecated ∷ specified_by ∷ connection
    ∷ directive_tree (codes "arguments") [] (L.FragmentSpread ∷ []) ∷ relay ∷ directive_tree (codes "argumentDefinitions") [] (L.FragmentDefinition ∷ [])
    ∷ directive_tree (codes "inline") [] (L.FragmentDefinition ∷ []) ∷ []
