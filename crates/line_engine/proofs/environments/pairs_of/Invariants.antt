-- The entries so far, and those that are left.
use Rattle.std.proofs.Common.{◌≡◌, ◌++◌}
use Rattle.line_engine.proofs.environments.pairs_of.Given as goal

abbrev pub invariant-entries : goal.invariant-entries
invariant-entries l = l.entries.items ++ l.entry-iterator ≡ l.initial.entry-iterator
