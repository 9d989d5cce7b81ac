use Rattle.std.proofs.Common.{◌≡◌}
use Rattle.store_watch.specs.Rows.{tellings_of}
use Rattle.store_watch.specs.Watching.{accepted}
use Rattle.store_watch.proofs.watches.Watches.accept.Given as goal

abbrev pub invariant-kept : goal.invariant-kept
invariant-kept l = accepted (tellings_of l.notice-iterator.rest.items) l.self ≡ accepted l.fn.notices l.fn.self
