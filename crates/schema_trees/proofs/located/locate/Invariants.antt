-- What is located and what is left are the whole.
use Rattle.std.proofs.Common.{◌≡◌, ◌++◌, map, drop}
use Rattle.schema_trees.specs.Located.{defs_at}
use Rattle.schema_trees.specs.LocatedView.{def_of}
use Rattle.schema_trees.proofs.located.locate.Given as goal

abbrev pub invariant-definitions : goal.invariant-definitions
invariant-definitions l = map def_of l.definitions.items ++ defs_at l.at (drop l.definition-index l.schema) ≡ defs_at 1 l.schema
