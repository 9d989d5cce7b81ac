-- What is noted and what is left are the whole.
use Rattle.std.proofs.Common.{◌≡◌, map, drop}
use Rattle.gql_graph.specs.Leasts.{least_from}
use Rattle.schema_trees.specs.LocatedView.{field_of}
use Rattle.schema_rules.specs.Rules as rules
use Rattle.schema_rules.proofs.rules.names.note_repeated_arguments.Given as goal

abbrev pub invariant-fields : goal.invariant-fields
invariant-fields l = least_from l.least.at (rules.each (λ f. rules.repeated_names (rules.input_names f.arguments)) (map field_of (drop l.field-index l.fields))) ≡ least_from l.initial.least.at (rules.each (λ f. rules.repeated_names (rules.input_names f.arguments)) (map field_of l.fields))
