-- Steps of noting names.
use Rattle.std.proofs.Common.{◌≡◌, ℕ, ◌+◌, ◌<◌, List, [], ◌∷◌, Option, map, drop, length, get_or, add-one, sym, ap, ◌∙◌}
use Rattle.std.proofs.Math.Seq.{drop-cons}
use Rattle.doc_sites.specs.gql_graph.Leasts.{least_from}
use Rattle.doc_sites.specs.schema_types.NameRules.{not_there, names_of_all, fragment_names, spreads_in, sites_of, without_root}
use Rattle.doc_sites.specs.gql_graph.Rules.{each}
use Rattle.doc_sites.specs.schema_types.Sites.{DefinitionAt}
use Rattle.doc_sites.specs.schema_tables.Types.{Defs}
use Rattle.doc_sites.specs.schema_trees.declared.located.NameAt.{NameAt}
use Rattle.doc_sites.proofs.gql_graph_laws.LeastSteps.{noted-append}
use Rattle.doc_sites.specs.Definitions.{on_operation}

pub ruleset noting = (noted-append)

-- spreads of no fragment of all definitions, in some of them
abbrev pub not_there_in : (all : List DefinitionAt) → List DefinitionAt → List ℕ
not_there_in all ds = each (λ d. each (not_there (names_of_all (fragment_names all))) (spreads_in (sites_of d))) ds

-- a definition that is an operation without a root
abbrev pub no_root_in : Defs → DefinitionAt → List ℕ
no_root_in defs d = on_operation (λ o. without_root defs o o.name) d

-- one more element of a list, told by its place, is noted
pub noted_at : {X A : Type 0} (view : X → A) (f : A → List ℕ) (xs : List X) (i : ℕ) (d : X) (o p whole : Option ℕ) → i < length xs
    → p ≡ least_from o (f (view (get_or xs i d))) → least_from o (each f (map view (drop i xs))) ≡ whole → least_from p (each f (map view (drop (i + 1) xs))) ≡ whole
noted_at {X = X} view f xs i d o p whole h e w =
    let rest : List _ = map view (drop (i + 1) xs) in
    let same : drop i xs ≡ get_or xs i d ∷ drop (i + 1) xs = rw add-one (drop-cons xs i d h) in
    ap (λ (q : Option ℕ). least_from q (each f rest)) e ∙ sym (noted-append o (f (view (get_or xs i d))) (each f rest))
    ∙ sym (ap (λ (ys : List X). least_from o (each f (map view ys))) same) ∙ w

-- a name that stands nowhere
abbrev pub no_name : NameAt
no_name = record { name = record { ref_ptr = (0, 0); now = [] }; at = 0 }
