use Rattle.std.proofs.Common.{◌≡◌, drop}
use Rattle.store_watch.specs.Lists.{under}
use Rattle.store_watch.specs.Numbers.{Grows, IsComplete}
use Rattle.store_watch.specs.Rows.{seen_of}
use Rattle.store_watch.proofs.due.put_late.Given as goal

abbrev pub invariant-late : goal.invariant-late
invariant-late l = Grows (under l.initial.index.lists) (under l.index.lists)
    × (IsComplete (under l.initial.index.lists) l.late (seen_of l.rows) → IsComplete (under l.index.lists) (drop l.number-index l.late) (seen_of l.rows))
