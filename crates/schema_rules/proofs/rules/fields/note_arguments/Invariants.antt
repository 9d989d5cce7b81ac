-- What is noted and what is left are the whole.
use Rattle.std.proofs.Common.{◌≡◌, drop}
use Rattle.gql_graph.specs.Leasts.{least_from}
use Rattle.schema_trees.specs.LocatedView.{field_of}
use Rattle.schema_rules.specs.Rules as rules
use Rattle.schema_rules.proofs.rules.fields.note_arguments.Given as goal

abbrev pub invariant-arguments : goal.invariant-arguments
invariant-arguments l = least_from l.least.at (rules.each (rules.arguments_lack (field_of l.field)) (drop l.argument-index l.argument-items)) ≡ least_from l.initial.least.at (rules.each (rules.arguments_lack (field_of l.field)) l.wanted.arguments)
