-- If those that are left are not before the least place, none is.
use Rattle.std.proofs.Common.{◌≡◌, List, map, drop}
use Rattle.schema_trees.specs.gql_ast.declared.member.InputTree.{InputTree}
use Rattle.gql_graph.specs.Leasts.{least_from}
use Rattle.schema_trees.specs.LocatedView.{input_of}
use Rattle.schema_rules.specs.Rules as rules
use Rattle.schema_rules.proofs.rules.fields.are_named_later.Given as goal

abbrev pub invariant-arguments : goal.invariant-arguments
invariant-arguments l = (ws : List InputTree) → least_from l.least.at (rules.each (rules.further_argument ws) (map input_of (drop l.argument-index l.arguments))) ≡ l.least.at
    → least_from l.least.at (rules.each (rules.further_argument ws) (map input_of l.arguments)) ≡ l.least.at
