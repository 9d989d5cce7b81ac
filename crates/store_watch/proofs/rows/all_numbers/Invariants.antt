use Rattle.std.proofs.Common.{◌≡◌, ◌++◌, drop}
use Rattle.store_watch.specs.Numbers.{numbers_of}
use Rattle.store_watch.specs.Rows.{seen_of}
use Rattle.store_watch.proofs.rows.all_numbers.Given as goal

abbrev pub invariant-rows : goal.invariant-rows
invariant-rows l = l.numbers.items ++ numbers_of (seen_of (drop l.row-index l.rows)) ≡ numbers_of (seen_of l.rows)
