use Rattle.std.proofs.Common.{arith, option_copied}
use Rattle.store_conn.proofs.Looks.{one_more, whole_few}
use Rattle.store_conn.proofs.Merges.{replaced_is, put_last}
use Rattle.store_conn.proofs.replace.replace_edges.Goals as goal
use Rattle.store_conn.specs.Changes.{put_all}
use Rattle.store_conn.specs.Connections.{kept_of}
use Rattle.store_conn.specs.Pages.{whole_edges}

pub returns-clause-records : goal.returns-clause-records
returns-clause-records g c = λ onto.
    let m = g.S.RecordSource.records c.args.source.now in
    let server = c.args.server.now in
    let kept = kept_of c.args.connection.now in
    replaced_is server kept m c.in_ok-page.page.list (option_copied c.below-info.result) c.below-info.ensures.found c.args.handle.now (put_all c.args.changes.items onto) _ _ c.in_ok-page.ensures.list
    (c.in_ok-push_whole_page.ensures.records (whole_edges server m) onto c.in_ok-page.ensures.made)
    (put_last _ _ _ onto c.in_ok-push_whole_info.ensures)

pub returns-clause-few : goal.returns-clause-few
returns-clause-few g c =
    let m = g.S.RecordSource.records c.args.source.now in
    let few = whole_few c.args.server.now (kept_of c.args.connection.now) m c.in_ok-page.page.made c.in_ok-page.ensures.made in
    omega (arith, few, c.in_ok-push_whole_page.ensures.few, one_more _ _ _ c.in_ok-push_whole_info.ensures)
