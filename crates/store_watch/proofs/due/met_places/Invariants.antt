use Rattle.std.proofs.Common.{◌≡◌, ◌++◌, drop, filter}
use Rattle.store_watch.specs.Places.{passes_at}
use Rattle.store_watch.specs.Rows.{met_by}
use Rattle.store_watch.proofs.due.met_places.Given as goal

abbrev pub invariant-places : goal.invariant-places
invariant-places l = l.met.items ++ filter (passes_at (met_by l.touched) l.rows) (drop l.place-index l.places) ≡ filter (passes_at (met_by l.touched) l.rows) l.places
