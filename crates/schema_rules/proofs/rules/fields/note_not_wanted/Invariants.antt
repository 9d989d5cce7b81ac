-- What is noted and what is left are the whole.
use Rattle.std.proofs.Common.{◌≡◌, map, drop}
use Rattle.gql_graph.specs.Leasts.{least_from}
use Rattle.schema_trees.specs.LocatedView.{input_of}
use Rattle.schema_rules.specs.Rules as rules
use Rattle.schema_rules.proofs.rules.fields.note_not_wanted.Given as goal

abbrev pub invariant-arguments : goal.invariant-arguments
invariant-arguments l = least_from l.least.at (rules.each (rules.further_argument l.wanted.arguments) (map input_of (drop l.argument-index l.arguments))) ≡ least_from l.initial.least.at (rules.each (rules.further_argument l.wanted.arguments) (map input_of l.arguments))
