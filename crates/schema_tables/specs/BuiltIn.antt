-- The directives that are known beside those of the schema: of the specification (GraphQL, October 2021, section 3.13), and of this
-- project after Relay. The arguments of `@arguments` and `@argumentDefinitions` are free.
use Rattle.std.specs.Prelude.{Bool, false, cond, List, [], ◌∷◌, map, codes, Option, Some, None, bytes_eq}
use Rattle.gql_graph.specs.gql_plain.Order.{has_text}
use Rattle.gql_ast.specs.Ty as ty
use Rattle.gql_ast.specs.declared.location.Location.{Location}
use Rattle.gql_ast.specs.declared.location.Location.TheVariants as L
use Rattle.gql_ast.specs.declared.schema.SchemaDef.{SchemaDef}
use Rattle.gql_ast.specs.declared.schema.SchemaDef.TheVariants as S
use Rattle.gql_ast.specs.declared.type_tree.TypeTree.{TypeTree}
use Rattle.gql_ast.specs.declared.type_tree.TypeTree.TheVariants as T
use Rattle.gql_ast.specs.declared.value.ValueTree.{ValueTree}
use Rattle.gql_ast.specs.declared.value.ValueTree.TheVariants as V
use Rattle.schema_tables.specs.Views.{DirectiveDef}
use Rattle.schema_tables.specs.Views.{InputDef}
use Rattle.schema_tables.specs.Types.{Text, Defs, input_def}

-- `name!`, `name`, and `[name!]`
abbrev pub required_type : Text → TypeTree
required_type n = T.NonNull (ty.named n)

abbrev pub optional_type : Text → TypeTree
optional_type n = T.Named n

abbrev pub list_type : Text → TypeTree
list_type n = T.List (ty.non_null (ty.named n))

abbrev pub input_of : Text → TypeTree → Option ValueTree → InputDef
input_of n t default = record { name = n; of = t; default = default }

-- none of them may stand twice at one place
abbrev pub directive_of : Text → List InputDef → List Location → DirectiveDef
directive_of n arguments locations = record { name = n; arguments = arguments; repeatable = false; locations = locations }

abbrev pub selection_locations : List Location
selection_locations = L.Field ∷ L.FragmentSpread ∷ L.InlineFragment ∷ []

abbrev pub condition : List InputDef
condition = input_of (codes "if") (required_type (codes "Boolean")) None ∷ []

abbrev pub built_in_directives : List DirectiveDef
built_in_directives =
    directive_of (codes "skip") condition selection_locations
    ∷ directive_of (codes "include") condition selection_locations
    ∷ directive_of (codes "deprecated") (input_of (codes "reason") (optional_type (codes "String")) (Some (V.Text (codes "No longer supported"))) ∷ [])
    (L.FieldDefinition ∷ L.ArgumentDefinition ∷ L.InputFieldDefinition ∷ L.EnumValue ∷ [])
    ∷ directive_of (codes "specifiedBy") (input_of (codes "url") (required_type (codes "String")) None ∷ []) (L.Scalar ∷ [])
    ∷ directive_of (codes "connection")
    (input_of (codes "key") (required_type (codes "String")) None ∷ input_of (codes "filters") (list_type (codes "String")) None ∷ []) (L.Field ∷ [])
    ∷ directive_of (codes "arguments") [] (L.FragmentSpread ∷ [])
    ∷ directive_of (codes "relay") (input_of (codes "mask") (required_type (codes "Boolean")) None ∷ []) (L.FragmentSpread ∷ [])
    ∷ directive_of (codes "argumentDefinitions") [] (L.FragmentDefinition ∷ [])
    ∷ directive_of (codes "inline") [] (L.FragmentDefinition ∷ [])
    ∷ []

abbrev pub is_built_in_directive : Text → Bool
is_built_in_directive n = has_text (map (λ (d : DirectiveDef). d.name) built_in_directives) n

abbrev pub defined_directive : SchemaDef → Option DirectiveDef
defined_directive (S.Directive n arguments repeatable locations) =
    Some (record { name = n; arguments = map input_def arguments; repeatable = repeatable; locations = locations })
defined_directive d = None

abbrev pub directives_of : Defs → List DirectiveDef
directives_of [] = []
directives_of (d ∷ ds) = cons (defined_directive d) (directives_of ds) where
  cons : Option DirectiveDef → List DirectiveDef → List DirectiveDef
  cons None more = more
  cons (Some one) more = one ∷ more

abbrev pub directive_named : List DirectiveDef → Text → Option DirectiveDef
directive_named [] n = None
directive_named (d ∷ ds) n = cond (bytes_eq d.name n) (Some d) (directive_named ds n)

-- a built-in directive, else the first that the schema defines; a definition of a built-in one has no effect
abbrev pub directive : Defs → Text → Option DirectiveDef
directive defs n = cond (is_built_in_directive n) (directive_named built_in_directives n) (directive_named (directives_of defs) n)
