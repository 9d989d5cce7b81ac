-- What is said of each definition, by what it is.
use Rattle.std.proofs.Common.{◌≡◌, Bool, true, false, cond, List, [], ◌∷◌, ◌++◌, map, Option, Some, unwrap_or, bytes_eq, refl, ap, ◌∙◌}
use Rattle.doc_sites.specs.Definitions.{on_fragment, on_operation, spreading}
use Rattle.doc_sites.specs.SitesView.{definition_of}
use Rattle.doc_sites.specs.declared.site.DefinitionAt as code
use Rattle.doc_sites.proofs.ListSteps.{each-map}
use Rattle.schema_types.specs.gql_graph.Graphs.{next_in}
use Rattle.schema_types.specs.NameRules.{fragments, names_of_all, operations, spread_by, spreads_in, spreads_of_fragment}
use Rattle.schema_types.specs.gql_graph.Rules.{each}
use Rattle.schema_types.specs.Sites.{FragmentAt, OperationAt, DefinitionAt, operation, fragment}
use Rattle.schema_types.specs.gql_graph.Texts.{Text}

-- what is said of each operation, and of each fragment, over all definitions
pub over_operations : {A : Type 0} (says : OperationAt → List A) (ds : List DefinitionAt) → each says (operations ds) ≡ each (on_operation says) ds
over_operations says [] = refl
over_operations {A = A} says (operation o ∷ ds) = ap (λ (l : List A). says o ++ l) (over_operations says ds)
over_operations says (fragment f ∷ ds) = over_operations says ds

pub over_fragments : {A : Type 0} (says : FragmentAt → List A) (ds : List DefinitionAt) → each says (fragments ds) ≡ each (on_fragment says) ds
over_fragments says [] = refl
over_fragments says (operation o ∷ ds) = over_fragments says ds
over_fragments {A = A} says (fragment f ∷ ds) = ap (λ (l : List A). says f ++ l) (over_fragments says ds)

-- ---- where fragments lead

first_or : (b : Bool) (f : FragmentAt) (rest : Option (List Text)) (more : Option FragmentAt) → unwrap_or rest [] ≡ spreads_of_fragment more
    → unwrap_or (cond b (Some (names_of_all (spreads_in f.sites))) rest) [] ≡ spreads_of_fragment (cond b (Some f) more)
first_or true f rest more e = refl
first_or false f rest more e = e

-- of a name that several fragments have the first one counts
next_spreading : (ds : List DefinitionAt) (n : Text) → next_in (each spreading ds) n ≡ spread_by (fragments ds) n
next_spreading [] n = refl
next_spreading (operation o ∷ ds) n = next_spreading ds n
next_spreading (fragment f ∷ ds) n = first_or (bytes_eq f.name.name n) f _ _ (next_spreading ds n)

-- the same over the definitions of the code
pub next_seen : (ds : List code.DefinitionAt) (n : Text) → next_in (each (λ d. spreading (definition_of d)) ds) n ≡ spread_by (fragments (map definition_of ds)) n
next_seen ds n = ap (λ (ps : List (Text × List Text)). next_in ps n) (each-map definition_of spreading ds) ∙ next_spreading (map definition_of ds) n
