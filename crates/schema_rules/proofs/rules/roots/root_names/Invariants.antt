-- What is collected and what is left are the whole.
use Rattle.std.proofs.Common.{◌≡◌, ◌++◌, map, drop}
use Rattle.schema_trees.specs.LocatedView.{root_of, name_of}
use Rattle.schema_rules.specs.Rules as rules
use Rattle.schema_rules.proofs.rules.roots.root_names.Given as goal

abbrev pub invariant-roots : goal.invariant-roots
invariant-roots l = map name_of l.names.items ++ rules.root_names (map root_of (drop l.root-index l.roots)) ≡ rules.root_names (map root_of l.roots)
