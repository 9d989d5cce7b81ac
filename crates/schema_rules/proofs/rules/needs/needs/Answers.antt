-- One more definition, and all of them.
use Rattle.std.proofs.Common.{List, [], ap, arith}
use Rattle.schema_rules.specs.Needing.{needing}
use Rattle.schema_rules.specs.Rules as rules
use Rattle.schema_trees.specs.schema_tables.Types.{Text, Defs}
use Rattle.gql_graph.proofs.Graphs.{tells_held, pairs_next, pairs_end}
use Rattle.schema_rules.proofs.NeededTypes.{next_needing}
use Rattle.schema_rules.proofs.rules.needs.needs.Goals as goal

pub definitions-init : goal.definitions-init
definitions-init c = ([], c.new-graph.ensures, ap (rules.each needing) c.definitions-definition-items.ensures)

pub definitions-preserved : goal.definitions-preserved
definitions-preserved c =
    let s = c.definitions.invariant in
    pairs_next needing c.put_needs.new.graph s.0 _ c.definitions-definition-items.result.now c.definitions.definition-index c.definition-item.result (omega arith) c.definition-item.is (c.in_ok-put_needs.ensures s.0 s.1) s.2

pub returns : goal.returns
returns c =
    let s = c.definitions.invariant in
    let defs : Defs = c.args.tables.now in
    let all : List (Text × List Text) = rules.each needing defs in
    tells_held c.definitions.graph all (rules.needs defs) (pairs_end needing c.definitions.graph s.0 all c.definitions-definition-items.result.now c.definitions.definition-index (omega arith) s.1 s.2) (next_needing defs)
