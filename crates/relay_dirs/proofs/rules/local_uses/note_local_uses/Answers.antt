-- One more definition, and all of them.
use Rattle.std.proofs.Common.{arith}
use Rattle.constant_values.proofs.gql_graph_laws.LeastSteps.{each_next}
use Rattle.doc_uses.specs.doc_sites.Definitions.{on_fragment}
use Rattle.doc_uses.specs.doc_sites.SitesView.{definition_of}
use Rattle.relay_rules.specs.Spreads.{local_uses_wrong}
use Rattle.doc_uses.proofs.doc_sites_laws.ListSteps.{noted_end}
use Rattle.relay_dirs.proofs.rules.local_uses.note_local_uses.Goals as goal

pub definitions-preserved : goal.definitions-preserved
definitions-preserved c = λ fs s.
    each_next definition_of (on_fragment (local_uses_wrong c.args.schema.now fs)) c.args.definitions.now c.definitions.definition-index c.definition-item.result _ _ _ (omega arith) c.definition-item.is
    (c.in_ok-note_definition.ensures fs s) (c.definitions.invariant fs s)

pub returns : goal.returns
returns c = λ fs s. noted_end definition_of (on_fragment (local_uses_wrong c.args.schema.now fs)) c.args.definitions.now c.definitions.definition-index _ _ (omega arith) (c.definitions.invariant fs s)
