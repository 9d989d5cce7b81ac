use Rattle.std.proofs.Common.{◌≡◌, sym, ◌∙◌}
use Rattle.store_watch.proofs.Lookups.{passes_here, passes_none}
use Rattle.store_watch.specs.Rows.{met_by}
use Rattle.store_watch.proofs.due.is_met.Goals as goal

pub returns-in-Some : goal.returns-in-Some
returns-in-Some c = c.have_common.ensures ∙ sym (passes_here (met_by c.args.touched.now) c.args.rows.now c.args.place c.in-Some.row.now c.in-Some.ensures)

pub returns-in-None : goal.returns-in-None
returns-in-None c = sym (passes_none (met_by c.args.touched.now) c.args.rows.now c.args.place c.in-None.ensures)
