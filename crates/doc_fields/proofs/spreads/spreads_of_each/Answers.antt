-- One more definition, and all of them.
use Rattle.std.proofs.Common.{List, [], map, refl, arith}
use Rattle.doc_sites.specs.schema_types.NameRules.{fragments}
use Rattle.doc_sites.specs.gql_graph.Rules.{each}
use Rattle.doc_sites.specs.schema_types.Sites.{DefinitionAt}
use Rattle.doc_sites.specs.gql_graph.Texts.{Text}
use Rattle.doc_sites.proofs.gql_graph_laws.Graphs.{tells_held}
use Rattle.doc_sites.specs.SitesView.{definition_of}
use Rattle.doc_sites.specs.Definitions.{on_fragment}
use Rattle.doc_fields.specs.Fragments.{leading, spreads_in, spreads_of}
use Rattle.doc_fields.proofs.Steps.{pairs_step, pairs_all, next_among}
use Rattle.doc_fields.proofs.spreads.spreads_of_each.Goals as goal

pub definitions-init : goal.definitions-init
definitions-init c = ([], c.new-graph.ensures, refl)

pub definitions-preserved : goal.definitions-preserved
definitions-preserved c =
    let s = c.definitions.invariant in
    pairs_step definition_of (on_fragment (leading (spreads_in c.args.schema.now c.args.root.now))) c.put_spreads_at.new.graph s.0 _ c.args.definitions.now c.definitions.definition-index c.definition-item.result (omega arith) c.definition-item.is
    (c.in_ok-put_spreads_at.ensures s.0 s.1) s.2

pub returns : goal.returns
returns c =
    let s = c.definitions.invariant in
    let ds : List DefinitionAt = map definition_of c.args.definitions.now in
    let all : List (Text × List Text) = each (on_fragment (leading (spreads_in c.args.schema.now c.args.root.now))) ds in
    tells_held c.definitions.graph all (spreads_of c.args.schema.now c.args.root.now (fragments ds))
    (pairs_all definition_of (on_fragment (leading (spreads_in c.args.schema.now c.args.root.now))) c.definitions.graph s.0 all c.args.definitions.now c.definitions.definition-index (omega arith) s.1 s.2) (next_among (spreads_in c.args.schema.now c.args.root.now) ds)
