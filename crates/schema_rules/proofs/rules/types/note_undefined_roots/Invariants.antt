-- What is noted and what is left are the whole.
use Rattle.std.proofs.Common.{◌≡◌, map, drop}
use Rattle.gql_graph.specs.Leasts.{least_from}
use Rattle.schema_trees.specs.LocatedView.{root_of}
use Rattle.schema_rules.specs.Rules as rules
use Rattle.schema_rules.proofs.rules.types.note_undefined_roots.Given as goal

abbrev pub invariant-roots : goal.invariant-roots
invariant-roots l = least_from l.least.at (rules.each (rules.not_defined l.tables) (rules.root_names (map root_of (drop l.root-index l.roots)))) ≡ least_from l.initial.least.at (rules.each (rules.not_defined l.tables) (rules.root_names (map root_of l.roots)))
