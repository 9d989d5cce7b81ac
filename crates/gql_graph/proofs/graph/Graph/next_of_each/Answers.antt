-- One more name.
use Rattle.std.proofs.Common.{arith}
use Rattle.gql_graph.proofs.Searching.{each_more}
use Rattle.gql_graph.proofs.graph.Graph.next_of_each.Goals as goal

pub names-preserved : goal.names-preserved
names-preserved c = λ next t.
    each_more next c.args.names.now c.names.name-index _ c.names.all.items c.next.result.now _ _ (omega arith) c.in_ok-extend_from_slice.ensures.items
    (c.next.ensures next t) (c.names.invariant next t)
