use Rattle.std.proofs.Common.{◌++◌, [], refl, ap, ◌∙◌, subst}
use Rattle.store_model.specs.Merge.{edges_of, live_edges, nodes_of}
use Rattle.store_conn.proofs.Merges.{later_is, list_until}
use Rattle.store_conn.proofs.after.page_with_old.Goals as goal
use Rattle.store_conn.specs.Changes.{edge_ids_of}
use Rattle.store_conn.specs.Connections.{IsMade, kept_of}
use Rattle.store_conn.specs.Nodes.{knows, and_nodes, unknown_edges}
use Rattle.store_conn.specs.Pages.{later_edges}

pub returns-clause-made : goal.returns-clause-made
returns-clause-made g c =
    let m = g.S.RecordSource.records c.args.source.now in
    let server = c.args.server.now in
    let kept = kept_of c.args.connection.now in
    let old = c.edges_of-old.ensures ∙ ap edges_of c.get.ensures in
    let news = c.in_ok-live.ensures.edges ∙ ap (live_edges m) c.edges_of.ensures in
    let wanted = c.in_ok-note_nodes.ensures ∙ ap (λ es. and_nodes (nodes_of es) (knows c.new-wanted.result.ids)) c.deref.ensures.value in
    let later = later_is server kept m (knows c.new-wanted.result.ids) c.new-wanted.ensures c.in_ok-live.live.items news c.edges_of-old.result.now (knows c.note_nodes.new.nodes.ids) (knows c.new-nodes.result.ids)
    (knows c.note_wanted.new.nodes.ids) c.deref-3.result.now old wanted c.new-nodes.ensures refl c.in_ok-note_wanted.ensures.nodes
    (c.deref-3.ensures.value ∙ c.in_ok-new.ensures.edges ∙ ap (unknown_edges (knows c.note_wanted.new.nodes.ids)) c.deref-2.ensures.value) in
    let made : IsMade kept (later_edges server kept m) c.in_ok-made.made = subst (λ es. IsMade kept es c.in_ok-made.made) later c.in_ok-made.ensures in
    made

pub returns-clause-list : goal.returns-clause-list
returns-clause-list g c =
    let m = g.S.RecordSource.records c.args.source.now in
    let server = c.args.server.now in
    let kept = kept_of c.args.connection.now in
    let old = c.edges_of-old.ensures ∙ ap edges_of c.get.ensures in
    let news = c.in_ok-live.ensures.edges ∙ ap (live_edges m) c.edges_of.ensures in
    let wanted = c.in_ok-note_nodes.ensures ∙ ap (λ es. and_nodes (nodes_of es) (knows c.new-wanted.result.ids)) c.deref.ensures.value in
    let later = later_is server kept m (knows c.new-wanted.result.ids) c.new-wanted.ensures c.in_ok-live.live.items news c.edges_of-old.result.now (knows c.note_nodes.new.nodes.ids) (knows c.new-nodes.result.ids)
    (knows c.note_wanted.new.nodes.ids) c.deref-3.result.now old wanted c.new-nodes.ensures refl c.in_ok-note_wanted.ensures.nodes
    (c.deref-3.ensures.value ∙ c.in_ok-new.ensures.edges ∙ ap (unknown_edges (knows c.note_wanted.new.nodes.ids)) c.deref-2.ensures.value) in
    let made : IsMade kept (later_edges server kept m) c.in_ok-made.made = subst (λ es. IsMade kept es c.in_ok-made.made) later c.in_ok-made.ensures in
    let own = edges_of kept.row in
    let begun = c.in_ok-push_edges.ensures ∙ ap (λ xs. xs ++ c.edges_of-old.result.now) c.new-list.ensures ∙ old in
    let put = c.in_ok-push_made.ensures ∙ ap (λ xs. xs ++ edge_ids_of c.deref-4.result.now) begun ∙ ap (λ cs. own ++ edge_ids_of cs) c.deref-4.ensures.value in
    list_until kept (later_edges server kept m) c.in_ok-made.made made own c.push_made.new.list put
