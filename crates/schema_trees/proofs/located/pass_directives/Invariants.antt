-- What is gone past and what is left are the whole.
use Rattle.std.proofs.Common.{◌≡◌, ◌+◌, drop}
use Rattle.schema_trees.specs.Located.{directives_nodes}
use Rattle.schema_trees.proofs.located.pass_directives.Given as goal

abbrev pub invariant-directives : goal.invariant-directives
invariant-directives l = l.at + directives_nodes (drop l.directive-index l.directive-items) ≡ l.initial.at + directives_nodes l.directives
