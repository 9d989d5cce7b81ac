use Rattle.std.proofs.Common.{◌≡◌, ◌++◌}
use Rattle.constant_values.proofs.pairs.pairs_of.Given as goal

abbrev pub invariant-entries : goal.invariant-entries
invariant-entries l = l.entries.items ++ l.entry-iterator ≡ l.initial.entry-iterator
