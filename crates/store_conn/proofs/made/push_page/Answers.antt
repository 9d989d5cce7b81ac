use Rattle.std.proofs.Common.{refl}
use Rattle.store_conn.proofs.Looks.{page_more}
use Rattle.store_conn.proofs.Merges.{page_put}
use Rattle.store_conn.proofs.made.push_page.Goals as goal
use Rattle.store_conn.specs.Connections.{kept_of}

pub returns-clause-records : goal.returns-clause-records
returns-clause-records c = λ new onto is.
    page_put (kept_of c.args.connection.now) new c.args.page.made is c.in_ok-row.row _ c.args.changes.now.items _ onto (c.in_ok-row.ensures new is) c.in_ok-push_connection.ensures

pub returns-clause-few : goal.returns-clause-few
returns-clause-few c = page_more _ _ _ _ c.in_ok-push_connection.ensures
