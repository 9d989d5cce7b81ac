use Rattle.std.proofs.Common.{◌≡◌, bytes_eq, drop}
use Rattle.std.specs.List.{list_any}
use Rattle.store_watch.specs.declared.rows.Row.{Row}
use Rattle.store_watch.proofs.rows.shows_handle.Given as goal

abbrev pub invariant-rows : goal.invariant-rows
invariant-rows l = list_any (λ (r : Row). bytes_eq r.what.handle l.handle) (drop l.row-index l.rows) ≡ list_any (λ (r : Row). bytes_eq r.what.handle l.handle) l.rows
