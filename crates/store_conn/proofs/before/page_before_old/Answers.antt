use Rattle.std.proofs.Common.{◌++◌, [], ap, ◌∙◌, subst}
use Rattle.store_model.specs.Merge.{edges_of, live_edges}
use Rattle.store_conn.proofs.Merges.{whole_is, others_are, list_with}
use Rattle.store_conn.proofs.before.page_before_old.Goals as goal
use Rattle.store_conn.specs.Changes.{edge_ids_of}
use Rattle.store_conn.specs.Connections.{IsMade, kept_of}
use Rattle.store_conn.specs.Nodes.{knows, edges_but}
use Rattle.store_conn.specs.Pages.{whole_edges, other_edges}

pub returns-clause-made : goal.returns-clause-made
returns-clause-made g c =
    let m = g.S.RecordSource.records c.args.source.now in
    let server = c.args.server.now in
    let kept = kept_of c.args.connection.now in
    let read = c.deref.ensures.value ∙ c.in_ok-live.ensures.edges ∙ ap (live_edges m) c.edges_of.ensures in
    let whole = whole_is server kept m (knows c.new-nodes.result.ids) c.new-nodes.ensures c.deref.result.now read c.deref-2.result.now (c.deref-2.ensures.value ∙ c.in_ok-new.ensures.edges) in
    let made : IsMade kept (whole_edges server m) c.in_ok-made.made = subst (λ es. IsMade kept es c.in_ok-made.made) whole c.in_ok-made.ensures in
    made

pub returns-clause-list : goal.returns-clause-list
returns-clause-list g c =
    let m = g.S.RecordSource.records c.args.source.now in
    let server = c.args.server.now in
    let kept = kept_of c.args.connection.now in
    let read = c.deref.ensures.value ∙ c.in_ok-live.ensures.edges ∙ ap (live_edges m) c.edges_of.ensures in
    let whole = whole_is server kept m (knows c.new-nodes.result.ids) c.new-nodes.ensures c.deref.result.now read c.deref-2.result.now (c.deref-2.ensures.value ∙ c.in_ok-new.ensures.edges) in
    let made : IsMade kept (whole_edges server m) c.in_ok-made.made = subst (λ es. IsMade kept es c.in_ok-made.made) whole c.in_ok-made.ensures in
    let known = knows c.new_edges.new.nodes.ids in
    let old = c.edges_of-2.ensures ∙ ap edges_of c.get.ensures in
    let others = others_are server kept m (knows c.new-nodes.result.ids) c.new-nodes.ensures c.deref.result.now read known c.edges_of-2.result.now old c.in_ok-new.ensures.nodes in
    let put = c.in_ok-push_made.ensures ∙ ap (λ xs. xs ++ edge_ids_of c.deref-3.result.now) c.new-list.ensures ∙ ap edge_ids_of c.deref-3.ensures.value in
    let both = c.in_ok-push_edges_but.ensures.list ∙ ap (λ xs. xs ++ edges_but known m c.edges_of-2.result.now) put ∙ ap (λ es. edge_ids_of c.in_ok-made.made.edges.items ++ es) others in
    list_with kept (whole_edges server m) c.in_ok-made.made made [] (other_edges server kept m) c.push_edges_but.new.list both
