-- What is noted and what is left are the whole.
use Rattle.std.proofs.Common.{◌≡◌, map, drop}
use Rattle.doc_sites.specs.gql_graph.Leasts.{least_from}
use Rattle.doc_sites.specs.schema_trees.LocatedView.{name_of}
use Rattle.doc_sites.specs.schema_types.NameRules.{not_composite}
use Rattle.doc_sites.specs.gql_graph.Rules.{each}
use Rattle.doc_names.proofs.rules.conditions.note_each_not_composite.Given as goal

abbrev pub invariant-conditions : goal.invariant-conditions
invariant-conditions l = least_from l.least.at (each (not_composite l.schema) (map name_of (drop l.name-index l.conditions))) ≡ least_from l.initial.least.at (each (not_composite l.schema) (map name_of l.conditions))
