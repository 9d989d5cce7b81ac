use Rattle.std.proofs.Common.{◌≡◌, ◌∷◌, ◌++◌, [], Some, ap, ◌∙◌}
use Rattle.store_conn.proofs.Steps.{made_next, ids_splits}
use Rattle.store_conn.proofs.made.push_made.Goals as goal
use Rattle.store_conn.specs.Changes.{edge_ids_of}

pub edges-preserved : goal.edges-preserved
edges-preserved c =
    let edges = c.args.edges.now in
    let i = c.edges.edge-index in
    let edge = c.edge-item.result in
    let pushed = c.in_ok-push.ensures.ok ∙ ap (λ id. c.edges.list ++ Some id ∷ []) c.in_ok-id.ensures in
    made_next edge_ids_of ids_splits c.edges.list _ edges i edge c.edges-test.true c.edge-item.is pushed ∙ c.edges.invariant
