use Rattle.std.proofs.Common.{◌++◌, [], ap, ◌∙◌, subst}
use Rattle.store_model.specs.Merge.{edges_of, live_edges}
use Rattle.store_conn.proofs.Merges.{whole_is, list_until}
use Rattle.store_conn.proofs.replace.whole_page.Goals as goal
use Rattle.store_conn.specs.Changes.{edge_ids_of}
use Rattle.store_conn.specs.Connections.{IsMade, kept_of}
use Rattle.store_conn.specs.Nodes.{knows}
use Rattle.store_conn.specs.Pages.{whole_edges}

pub returns-clause-made : goal.returns-clause-made
returns-clause-made g c =
    let m = g.S.RecordSource.records c.args.source.now in
    let server = c.args.server.now in
    let kept = kept_of c.args.connection.now in
    let read = c.deref.ensures.value ∙ c.in_ok-live.ensures.edges ∙ ap (live_edges m) c.edges_of.ensures in
    let whole = whole_is server kept m (knows c.new-nodes.result.ids) c.new-nodes.ensures c.deref.result.now read c.deref-2.result.now (c.deref-2.ensures.value ∙ c.in_ok-new.ensures.edges) in
    let made : IsMade kept (whole_edges server m) c.in_ok-made.made = subst (λ es. IsMade kept es c.in_ok-made.made) whole c.in_ok-made.ensures in
    made

pub returns-clause-list : goal.returns-clause-list
returns-clause-list g c =
    let m = g.S.RecordSource.records c.args.source.now in
    let server = c.args.server.now in
    let kept = kept_of c.args.connection.now in
    let read = c.deref.ensures.value ∙ c.in_ok-live.ensures.edges ∙ ap (live_edges m) c.edges_of.ensures in
    let whole = whole_is server kept m (knows c.new-nodes.result.ids) c.new-nodes.ensures c.deref.result.now read c.deref-2.result.now (c.deref-2.ensures.value ∙ c.in_ok-new.ensures.edges) in
    let made : IsMade kept (whole_edges server m) c.in_ok-made.made = subst (λ es. IsMade kept es c.in_ok-made.made) whole c.in_ok-made.ensures in
    let put = c.in_ok-push_made.ensures ∙ ap (λ xs. xs ++ edge_ids_of c.deref-3.result.now) c.new-list.ensures ∙ ap edge_ids_of c.deref-3.ensures.value in
    list_until kept (whole_edges server m) c.in_ok-made.made made [] c.push_made.new.list put
