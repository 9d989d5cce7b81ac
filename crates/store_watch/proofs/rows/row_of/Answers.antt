use Rattle.std.proofs.Common.{◌≡◌, ap, ◌∙◌, slice_get}
use Rattle.store_watch.proofs.Lookups.{none_some, some_is}
use Rattle.store_watch.proofs.rows.row_of.Goals as goal

pub returns-in-Some : goal.returns-in-Some
returns-in-Some c = λ place lt e. c.row_at.ensures ∙ ap (slice_get c.args.rows.now) (some_is c.in-Some.place place (c.in-Some.ensures place lt e))

pub returns-in-None : goal.returns-in-None
returns-in-None c = λ place lt e. none_some place (c.in-None.ensures place lt e)
