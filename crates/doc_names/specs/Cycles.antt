-- Spreads that lead back to the fragment in which they stand.
use Rattle.std.specs.Prelude.{ℕ, List}
use Rattle.doc_sites.specs.schema_trees.Located.{Located}
use Rattle.doc_sites.specs.schema_types.NameRules.{leads_back, spreads_in}
use Rattle.doc_sites.specs.gql_graph.Reached.{leads}
use Rattle.doc_sites.specs.gql_graph.Rules.{each, wrong}
use Rattle.doc_sites.specs.schema_types.Sites.{FragmentAt}
use Rattle.doc_sites.specs.gql_graph.Texts.{Text}

-- those in a fragment, among all
abbrev pub leads_back_in : (all : List FragmentAt) → FragmentAt → List ℕ
leads_back_in all f = each (leads_back all f) (spreads_in f.sites)

-- those that lead to a name
abbrev pub leads_to : (next : Text → List Text) → (steps : ℕ) → (to : Text) → Located → List ℕ
leads_to next steps to n = wrong (leads next steps n.name to) n.at

abbrev pub leading_back : (next : Text → List Text) → (steps : ℕ) → (to : Text) → List Located → List ℕ
leading_back next steps to ns = each (leads_to next steps to) ns
