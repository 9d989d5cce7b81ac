-- What is collected and what is left are the whole.
use Rattle.std.proofs.Common.{◌≡◌, ◌++◌, map, drop}
use Rattle.std.specs.List.{filter_map}
use Rattle.schema_trees.specs.LocatedView.{def_of, name_of}
use Rattle.schema_rules.specs.Rules as rules
use Rattle.schema_rules.proofs.rules.roots.directive_names.Given as goal

abbrev pub invariant-definitions : goal.invariant-definitions
invariant-definitions l = map name_of l.names.items ++ filter_map rules.directive_name_of (map def_of (drop l.definition-index l.definitions)) ≡ filter_map rules.directive_name_of (map def_of l.definitions)
