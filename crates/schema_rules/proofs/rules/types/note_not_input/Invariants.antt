-- What is noted and what is left are the whole.
use Rattle.std.proofs.Common.{◌≡◌, map, drop}
use Rattle.gql_graph.specs.Leasts.{least_from}
use Rattle.schema_trees.specs.LocatedView.{input_of}
use Rattle.schema_rules.specs.Rules as rules
use Rattle.schema_trees.specs.schema_tables.Types as types
use Rattle.schema_rules.proofs.rules.types.note_not_input.Given as goal

abbrev pub invariant-inputs : goal.invariant-inputs
invariant-inputs l = least_from l.least.at (rules.each (λ i. rules.not_of types.is_input_kind l.tables i.of) (map input_of (drop l.input-index l.inputs))) ≡ least_from l.initial.least.at (rules.each (λ i. rules.not_of types.is_input_kind l.tables i.of) (map input_of l.inputs))
