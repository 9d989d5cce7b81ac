use Rattle.std.proofs.Common.{◌≡◌, ◌++◌}
use Rattle.store_conn.proofs.changes.push_all.Given as goal

abbrev pub invariant-more : goal.invariant-more
invariant-more l = l.changes.items ++ l.change-iterator.rest.items ≡ l.fn.changes.items ++ l.initial.change-iterator.rest.items
