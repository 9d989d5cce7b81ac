-- What is noted and what is left are the whole.
use Rattle.std.proofs.Common.{◌≡◌, map, drop}
use Rattle.doc_uses.specs.schema_types.ArgumentRules as rules
use Rattle.gql_graph.specs.Leasts.{least_from}
use Rattle.gql_graph.specs.Rules.{each}
use Rattle.doc_uses.specs.doc_sites.SitesView.{variable_of}
use Rattle.doc_args.proofs.rules.variables.note_not_input.Given as goal

abbrev pub invariant-variables : goal.invariant-variables
invariant-variables l =
    least_from l.least.at (each (rules.not_input l.schema) (map variable_of (drop l.variable-index l.operation.variables.items)))
    ≡ least_from l.initial.least.at (each (rules.not_input l.schema) (map variable_of l.operation.variables.items))
