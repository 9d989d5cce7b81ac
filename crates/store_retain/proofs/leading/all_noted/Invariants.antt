use Rattle.std.proofs.Common.{◌≡◌, ◌++◌}
use Rattle.store_retain.proofs.leading.all_noted.Given as goal

abbrev pub invariant-ids : goal.invariant-ids
invariant-ids l = l.words.items ++ l.id-iterator ≡ l.initial.id-iterator
