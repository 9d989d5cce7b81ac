-- What is noted and what is left are the whole.
use Rattle.std.proofs.Common.{◌≡◌, map, drop}
use Rattle.doc_uses.specs.schema_types.ArgumentRules as rules
use Rattle.gql_graph.specs.Rules.{each}
use Rattle.gql_graph.specs.Leasts.{least_from}
use Rattle.doc_uses.specs.doc_sites.SitesView.{variable_of}
use Rattle.doc_args.proofs.rules.directives.note_variables.Given as goal

abbrev pub invariant-variables : goal.invariant-variables
invariant-variables l =
    least_from l.least.at (each (rules.directed_wrong l.schema) (map rules.directed_variable (map variable_of (drop l.variable-index l.variables)))) ≡ least_from l.initial.least.at (each (rules.directed_wrong l.schema) (map rules.directed_variable (map variable_of l.variables)))
