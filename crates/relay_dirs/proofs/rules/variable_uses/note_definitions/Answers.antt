-- One more definition, and all of them.
use Rattle.std.proofs.Common.{arith}
use Rattle.constant_values.proofs.gql_graph_laws.LeastSteps.{each_next}
use Rattle.doc_uses.specs.doc_sites.Definitions.{on_operation}
use Rattle.doc_uses.specs.doc_sites.SitesView.{definition_of}
use Rattle.relay_rules.specs.Spreads.{uses_of_operation_wrong}
use Rattle.doc_uses.proofs.doc_sites_laws.ListSteps.{noted_end}
use Rattle.relay_dirs.proofs.rules.variable_uses.note_definitions.Goals as goal

pub definitions-preserved : goal.definitions-preserved
definitions-preserved c = λ fs s d.
    each_next definition_of (on_operation (uses_of_operation_wrong c.args.schema.now fs)) c.args.definitions.now c.definitions.definition-index c.definition-item.result _ _ _ (omega arith) c.definition-item.is
    (c.in_ok-note_definition.ensures fs s d) (c.definitions.invariant fs s d)

pub returns : goal.returns
returns c = λ fs s d. noted_end definition_of (on_operation (uses_of_operation_wrong c.args.schema.now fs)) c.args.definitions.now c.definitions.definition-index _ _ (omega arith) (c.definitions.invariant fs s d)
