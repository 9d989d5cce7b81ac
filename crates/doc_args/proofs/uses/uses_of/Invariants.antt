-- What is collected and what is left are the whole.
use Rattle.std.proofs.Common.{◌≡◌, ◌++◌, map, drop}
use Rattle.doc_uses.specs.schema_types.ArgumentRules as rules
use Rattle.gql_graph.specs.Rules.{each}
use Rattle.doc_args.specs.CallView.{call_of}
use Rattle.doc_uses.specs.UseView.{use_of}
use Rattle.doc_args.proofs.uses.uses_of.Given as goal

abbrev pub invariant-calls : goal.invariant-calls
invariant-calls l =
    map use_of l.uses.items ++ each (rules.uses_of_call l.schema) (map call_of (drop l.call-index l.call-items)) ≡ each (rules.uses_of_call l.schema) (map call_of l.call-items)
