-- What is collected and what is left are the whole.
use Rattle.std.proofs.Common.{◌≡◌, ◌++◌, map, drop}
use Rattle.schema_trees.specs.LocatedView.{input_of, name_of}
use Rattle.schema_rules.specs.Rules as rules
use Rattle.schema_rules.proofs.rules.names.input_names.Given as goal

abbrev pub invariant-inputs : goal.invariant-inputs
invariant-inputs l = map name_of l.names.items ++ rules.input_names (map input_of (drop l.input-index l.inputs)) ≡ rules.input_names (map input_of l.inputs)
