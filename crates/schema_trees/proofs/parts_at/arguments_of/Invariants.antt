-- What is collected and what is left are the whole.
use Rattle.std.proofs.Common.{◌≡◌, ◌++◌, map, drop}
use Rattle.schema_trees.specs.LocatedView.{field_of, input_of}
use Rattle.schema_tables.specs.gql_graph.Rules.{each}
use Rattle.schema_trees.proofs.parts_at.arguments_of.Given as goal

abbrev pub invariant-fields : goal.invariant-fields
invariant-fields l = map input_of l.inputs.items ++ each (λ f. f.arguments) (map field_of (drop l.field-index l.fields)) ≡ each (λ f. f.arguments) (map field_of l.fields)
