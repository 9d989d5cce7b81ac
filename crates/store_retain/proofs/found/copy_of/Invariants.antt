-- The numbers so far.
use Rattle.std.proofs.Common.{◌≡◌, take}
use Rattle.store_retain.proofs.found.copy_of.Given as goal

abbrev pub invariant-numbers : goal.invariant-numbers
invariant-numbers l = l.copy.items ≡ take l.number-index l.numbers
