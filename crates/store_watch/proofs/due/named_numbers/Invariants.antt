use Rattle.std.proofs.Common.{◌≡◌, ◌++◌, drop}
use Rattle.store_watch.specs.Lists.{under}
use Rattle.store_watch.specs.Numbers.{named}
use Rattle.store_watch.proofs.due.named_numbers.Given as goal

abbrev pub invariant-touched : goal.invariant-touched
invariant-touched l = l.numbers.items ++ named (under l.index.lists) (drop l.id-index l.touched) ≡ l.late ++ named (under l.index.lists) l.touched
