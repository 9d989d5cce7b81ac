use Rattle.std.proofs.Common.{List, Option, ◌∙◌}
use Rattle.store_model.specs.store_record.Keys.{Text}
use Rattle.store_conn.proofs.Steps.{made_next, itself_splits}
use Rattle.store_conn.proofs.edges.push_edges.Goals as goal

pub edges-preserved : goal.edges-preserved
edges-preserved c =
    made_next (λ (xs : List (Option Text)). xs) itself_splits c.edges.list _ c.args.edges.now c.edges.edge-index c.edge-item.result c.edges-test.true c.edge-item.is c.in_ok-push_edge.ensures
    ∙ c.edges.invariant
