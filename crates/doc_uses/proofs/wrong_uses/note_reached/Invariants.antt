-- What is noted and what is left are the whole.
use Rattle.std.proofs.Common.{◌≡◌, [], List, map, drop}
use Rattle.doc_sites.specs.schema_types.ArgumentRules as rules
use Rattle.doc_sites.specs.gql_graph.Leasts.{least_from}
use Rattle.doc_sites.specs.gql_graph.Rules.{each}
use Rattle.doc_sites.specs.schema_types.Sites.{VariableAt}
use Rattle.doc_sites.specs.gql_graph.Texts.{Text}
use Rattle.doc_uses.specs.UsesByName.{Gathers}
use Rattle.doc_uses.specs.Named.{NamesVariables}
use Rattle.doc_uses.proofs.wrong_uses.note_reached.Given as goal

abbrev pub invariant-names : goal.invariant-names
invariant-names l =
    (vs : List VariableAt) → NamesVariables l.table vs → (tells : Text → List rules.Use) → Gathers l.gathered tells
    → least_from l.least.at (each (λ n. each (rules.use_wrong vs []) (tells n)) (map (λ n. n.now) (drop l.name-index l.names)))
    ≡ least_from l.initial.least.at (each (λ n. each (rules.use_wrong vs []) (tells n)) (map (λ n. n.now) l.names))
