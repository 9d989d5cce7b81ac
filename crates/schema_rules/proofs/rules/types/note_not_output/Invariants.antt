-- What is noted and what is left are the whole.
use Rattle.std.proofs.Common.{◌≡◌, map, drop}
use Rattle.gql_graph.specs.Leasts.{least_from}
use Rattle.schema_trees.specs.LocatedView.{field_of}
use Rattle.schema_rules.specs.Rules as rules
use Rattle.schema_trees.specs.schema_tables.Types as types
use Rattle.schema_rules.proofs.rules.types.note_not_output.Given as goal

abbrev pub invariant-fields : goal.invariant-fields
invariant-fields l = least_from l.least.at (rules.each (λ f. rules.not_of types.is_output_kind l.tables f.of) (map field_of (drop l.field-index l.fields))) ≡ least_from l.initial.least.at (rules.each (λ f. rules.not_of types.is_output_kind l.tables f.of) (map field_of l.fields))
