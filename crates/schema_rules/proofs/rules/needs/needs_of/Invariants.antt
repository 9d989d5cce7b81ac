-- What is collected and what is left are the whole.
use Rattle.std.proofs.Common.{◌≡◌, ◌++◌, map, drop}
use Rattle.std.specs.List.{filter_map}
use Rattle.schema_trees.specs.gql_ast.TypeView.{ty_of}
use Rattle.schema_rules.specs.Rules as rules
use Rattle.schema_rules.proofs.rules.needs.needs_of.Given as goal

abbrev pub invariant-inputs : goal.invariant-inputs
invariant-inputs l = map (λ n. n.now) l.names.items ++ filter_map (λ i. rules.needed_type (ty_of i.of)) (drop l.input-index l.input-items) ≡ filter_map (λ i. rules.needed_type (ty_of i.of)) l.inputs
