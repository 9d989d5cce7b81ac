-- What is noted and what is left are the whole.
use Rattle.std.proofs.Common.{◌≡◌, map, drop}
use Rattle.doc_uses.specs.schema_types.ArgumentRules as rules
use Rattle.gql_graph.specs.Rules.{each}
use Rattle.gql_graph.specs.Leasts.{least_from}
use Rattle.doc_uses.specs.schema_trees.LocatedView.{name_of}
use Rattle.doc_args.proofs.rules.arguments.note_not_among.Given as goal

abbrev pub invariant-names : goal.invariant-names
invariant-names l =
    least_from l.least.at (each (rules.not_taken (rules.inputs l.inputs)) (map name_of (drop l.name-index l.names))) ≡ least_from l.initial.least.at (each (rules.not_taken (rules.inputs l.inputs)) (map name_of l.names))
