-- What is noted and what is left are the whole.
use Rattle.std.proofs.Common.{◌≡◌, map, drop}
use Rattle.doc_uses.specs.schema_types.ArgumentRules as rules
use Rattle.gql_graph.specs.Rules.{each}
use Rattle.gql_graph.specs.Leasts.{least_from}
use Rattle.doc_args.specs.CallView.{call_of}
use Rattle.doc_args.proofs.rules.arguments.note_wrong_among.Given as goal

abbrev pub invariant-calls : goal.invariant-calls
invariant-calls l =
    least_from l.least.at (each rules.arguments_of_call_wrong (map call_of (drop l.call-index l.calls))) ≡ least_from l.initial.least.at (each rules.arguments_of_call_wrong (map call_of l.calls))
