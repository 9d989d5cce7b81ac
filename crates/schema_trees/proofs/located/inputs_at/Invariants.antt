-- What is located and what is left are the whole.
use Rattle.std.proofs.Common.{◌≡◌, ◌+◌, ◌++◌, map, drop}
use Rattle.schema_trees.specs.Located.{inputs_nodes, inputs_at}
use Rattle.schema_trees.specs.LocatedView.{input_of}
use Rattle.schema_trees.proofs.located.inputs_at.Given as goal

abbrev pub invariant-inputs : goal.invariant-inputs
invariant-inputs l =
    (map input_of l.located.items ++ inputs_at l.at (drop l.input-index l.input-items) ≡ inputs_at l.initial.at l.inputs)
    × (l.at + inputs_nodes (drop l.input-index l.input-items) ≡ l.initial.at + inputs_nodes l.inputs)
