-- One more of the list.
use Rattle.std.proofs.Common.{List, map, arith}
use Rattle.doc_sites.specs.SitesView.{definition_of}
use Rattle.doc_sites.specs.schema_types.NameRules.{fragment_names, names_of_all, not_there, sites_of, spreads_in}
use Rattle.doc_sites.specs.gql_graph.Rules.{each}
use Rattle.doc_sites.specs.gql_graph.Texts.{Text}
use Rattle.doc_sites.proofs.gql_graph_laws.LeastSteps.{each_next}
use Rattle.doc_names.proofs.rules.spreads.fragments_not_there.Goals as goal

pub definitions-preserved : goal.definitions-preserved
definitions-preserved c =
    let all : List Text = names_of_all (fragment_names (map definition_of c.args.definitions.now)) in
    each_next definition_of (λ d. each (not_there all) (spreads_in (sites_of d))) c.args.definitions.now c.definitions.definition-index c.definition-item.result _ _ _ (omega arith) c.definition-item.is
    (c.in_ok-note_not_there_in.ensures all c.in_ok-there.ensures) c.definitions.invariant
