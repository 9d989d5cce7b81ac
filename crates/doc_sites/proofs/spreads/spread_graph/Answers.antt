-- One more definition, and all of them.
use Rattle.std.proofs.Common.{List, [], refl, map, arith}
use Rattle.doc_sites.specs.SitesView.{definition_of}
use Rattle.doc_sites.specs.declared.site.DefinitionAt.{DefinitionAt}
use Rattle.schema_types.specs.NameRules.{fragments, spread_by}
use Rattle.schema_types.specs.gql_graph.Rules.{each}
use Rattle.schema_types.specs.gql_graph.Texts.{Text}
use Rattle.schema_types.proofs.gql_graph_laws.Graphs.{pairs_end, pairs_next, tells_held}
use Rattle.doc_sites.specs.Definitions.{spreading}
use Rattle.doc_sites.proofs.DefinitionSteps.{next_seen}
use Rattle.doc_sites.proofs.spreads.spread_graph.Goals as goal

pub definitions-init : goal.definitions-init
definitions-init c = ([], c.new-graph.ensures, refl)

pub definitions-preserved : goal.definitions-preserved
definitions-preserved c =
    let s = c.definitions.invariant in
    pairs_next (λ d. spreading (definition_of d)) c.put_spreads.new.graph s.0 _ c.args.definitions.now c.definitions.definition-index c.definition-item.result (omega arith) c.definition-item.is
    (c.in_ok-put_spreads.ensures s.0 s.1) s.2

pub returns : goal.returns
returns c =
    let s = c.definitions.invariant in
    let of : DefinitionAt → List (Text × List Text) = λ d. spreading (definition_of d) in
    let all : List (Text × List Text) = each of c.args.definitions.now in
    tells_held c.definitions.graph all (spread_by (fragments (map definition_of c.args.definitions.now)))
    (pairs_end of c.definitions.graph s.0 all c.args.definitions.now c.definitions.definition-index (omega arith) s.1 s.2)
    (next_seen c.args.definitions.now)
