-- What is collected and what is left are the whole.
use Rattle.std.proofs.Common.{◌≡◌, ◌++◌, map, drop}
use Rattle.doc_sites.specs.gql_graph.Rules.{each}
use Rattle.doc_sites.specs.SitesView.{definition_of}
use Rattle.doc_uses.specs.Parts.{fragment_name}
use Rattle.doc_uses.proofs.fragment_uses.fragment_names.Given as goal

abbrev pub invariant-definitions : goal.invariant-definitions
invariant-definitions l = map (λ n. n.now) l.names.items ++ each fragment_name (map definition_of (drop l.definition-index l.definitions)) ≡ each fragment_name (map definition_of l.definitions)
