use Rattle.std.proofs.Common.{length, ap, ◌∙◌, arith, option_copied}
use Rattle.store_conn.proofs.Looks.{whole_few}
use Rattle.store_conn.proofs.Merges.{before_is}
use Rattle.store_conn.proofs.before.page_before.Goals as goal
use Rattle.store_conn.specs.Changes.{put_all}
use Rattle.store_conn.specs.Connections.{kept_of, with_list, put_connection}
use Rattle.store_conn.specs.Pages.{whole_edges}

pub returns-clause-records : goal.returns-clause-records
returns-clause-records g c = λ own.
    let m = g.S.RecordSource.records c.args.source.now in
    let server = c.args.server.now in
    let kept = kept_of c.args.connection.now in
    let new = whole_edges server m in
    let page = c.in_ok-page.page in
    let first = c.in_ok-push_page.ensures.records new m c.in_ok-page.ensures.made
    ∙ ap (λ cs. put_connection kept (with_list server kept new page.list) new (put_all cs m)) c.new-changes.ensures.items in
    before_is server kept m page.list (option_copied c.below-server_info.result) c.below-server_info.ensures.found (option_copied c.args.info) own _ _ c.in_ok-page.ensures.list first
    (c.in_ok-push_info.ensures.records m)

pub returns-clause-few : goal.returns-clause-few
returns-clause-few g c =
    let m = g.S.RecordSource.records c.args.source.now in
    let server = c.args.server.now in
    let kept = kept_of c.args.connection.now in
    let few = whole_few server kept m c.in_ok-page.page.made c.in_ok-page.ensures.made in
    omega (arith, few, ap length c.new-changes.ensures.items, c.in_ok-push_page.ensures.few, c.in_ok-push_info.ensures.few)
