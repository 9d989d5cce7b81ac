-- What is said of a definition, by what it is.
use Rattle.std.specs.Prelude.{◌≡◌, List, [], ◌∷◌, map}
use Rattle.schema_types.specs.gql_ast.declared.document.Document.{Document}
use Rattle.schema_types.specs.gql_ast.declared.place.Placed.{Placed}
use Rattle.schema_types.specs.DocumentRules.{trees_of}
use Rattle.schema_types.specs.NameRules.{names_of_all, spreads_in}
use Rattle.schema_types.specs.Sites.{OperationAt, FragmentAt, DefinitionAt, operation, fragment, all_definitions}
use Rattle.schema_types.specs.schema_tables.Types.{Text, Defs}
use Rattle.doc_sites.specs.SitesView.{definition_of}
use Rattle.doc_sites.specs.declared.site.DefinitionAt as code

abbrev pub on_operation : {A : Type 0} → (OperationAt → List A) → DefinitionAt → List A
on_operation says (operation o) = says o
on_operation says (fragment f) = []

abbrev pub on_fragment : {A : Type 0} → (FragmentAt → List A) → DefinitionAt → List A
on_fragment says (operation o) = []
on_fragment says (fragment f) = says f

-- a fragment with those that it spreads
abbrev pub spreading : DefinitionAt → List (Text × List Text)
spreading (operation o) = []
spreading (fragment f) = (f.name.name, names_of_all (spreads_in f.sites)) ∷ []

-- these are the definitions of all documents
abbrev pub AreIn : Defs → List (Placed Document) → List code.DefinitionAt → Type 0
AreIn defs ps ds = map definition_of ds ≡ all_definitions defs (trees_of ps)
