-- One more definition.
use Rattle.std.proofs.Common.{arith}
use Rattle.schema_trees.specs.LocatedView.{def_of}
use Rattle.schema_rules.specs.Rules as rules
use Rattle.gql_graph.proofs.LeastSteps.{each_next}
use Rattle.schema_rules.proofs.rules.needs.inputs_need_themselves.Goals as goal

pub definitions-preserved : goal.definitions-preserved
definitions-preserved c =
    let told = c.in_ok-graph.ensures in
    let never = c.in_ok-ranks.ensures (rules.needs c.args.tables.now) told in
    each_next def_of (rules.needs_itself c.args.tables.now) c.args.definitions.now c.definitions.definition-index c.definition-item.result _ _ _ (omega arith) c.definition-item.is
    (c.in_ok-note_needing.ensures c.args.tables.now told c.requires never) c.definitions.invariant
