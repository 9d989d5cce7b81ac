-- What is collected and what is left are the whole.
use Rattle.std.proofs.Common.{◌≡◌, ◌++◌, map, drop}
use Rattle.constant_values.specs.gql_graph.Rules.{each}
use Rattle.doc_uses.specs.doc_sites.SitesView.{argument_of, directive_of}
use Rattle.relay_rules.specs.Spreads.{spread_arguments, arguments_by}
use Rattle.relay_dirs.proofs.spread_arguments.spread_arguments.Given as goal

abbrev pub invariant-directives : goal.invariant-directives
invariant-directives l = map argument_of l.given.items ++ each arguments_by (map directive_of (drop l.directive-index l.directives)) ≡ spread_arguments (map directive_of l.directives)
