-- No definition so far gives roots.
use Rattle.std.proofs.Common.{◌≡◌, map, drop}
use Rattle.schema_trees.specs.LocatedView.{def_of}
use Rattle.schema_rules.specs.Rules as rules
use Rattle.schema_rules.proofs.rules.roots.roots_given.Given as goal

abbrev pub invariant-definitions : goal.invariant-definitions
invariant-definitions l = rules.roots_given (map def_of (drop l.definition-index l.definitions)) ≡ rules.roots_given (map def_of l.definitions)
