use Rattle.store_watch.proofs.Lookups.{got}
use Rattle.store_watch.proofs.rows.row_at.Goals as goal

pub returns : goal.returns
returns c = got c.args.rows.now c.args.place c.get.result c.get.ensures.lookup.3
