-- One more definition, and all of them.
use Rattle.std.proofs.Common.{ℕ, List, map, ap, sym, ◌∙◌, arith}
use Rattle.doc_sites.specs.SitesView.{definition_of}
use Rattle.doc_sites.specs.gql_graph.Leasts.{least_from}
use Rattle.doc_sites.specs.schema_types.NameRules.{fragments, spread_by}
use Rattle.doc_sites.specs.schema_types.Sites.{FragmentAt}
use Rattle.doc_sites.proofs.gql_graph_laws.LeastSteps.{each_next}
use Rattle.doc_names.specs.Cycles.{leads_back_in}
use Rattle.doc_sites.specs.Definitions.{on_fragment}
use Rattle.doc_sites.proofs.ListSteps.{noted_end}
use Rattle.doc_sites.proofs.DefinitionSteps.{over_fragments}
use Rattle.doc_names.proofs.rules.cycles.spreads_on_cycles.Goals as goal

pub definitions-preserved : goal.definitions-preserved
definitions-preserved c =
    let fs : List FragmentAt = fragments (map definition_of c.args.definitions.now) in
    each_next definition_of (on_fragment (leads_back_in fs)) c.args.definitions.now c.definitions.definition-index c.definition-item.result _ _ _ (omega arith) c.definition-item.is
    (c.in_ok-note_cycles_in.ensures fs c.in_ok-graph.ensures c.in_ok-steps.ensures (c.in_ok-ranks.ensures (spread_by fs) c.in_ok-graph.ensures)) c.definitions.invariant

pub returns : goal.returns
returns c =
    let fs : List FragmentAt = fragments (map definition_of c.args.definitions.now) in
    noted_end definition_of (on_fragment (leads_back_in fs)) c.args.definitions.now c.definitions.definition-index c.definitions.least.at _ (omega arith) c.definitions.invariant
    ∙ sym (ap (λ (places : List ℕ). least_from c.args.least.now.at places) (over_fragments (leads_back_in fs) (map definition_of c.args.definitions.now)))
