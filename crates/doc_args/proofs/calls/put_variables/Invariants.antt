-- What is put and what is left are the whole.
use Rattle.std.proofs.Common.{◌≡◌, ◌++◌, map, drop}
use Rattle.doc_uses.specs.schema_types.ArgumentRules as rules
use Rattle.doc_uses.specs.doc_sites.SitesView.{variable_of}
use Rattle.doc_args.specs.CallView.{call_of}
use Rattle.doc_args.proofs.calls.put_variables.Given as goal

abbrev pub invariant-variables : goal.invariant-variables
invariant-variables l =
    map call_of l.calls.items ++ rules.variable_calls l.schema (map variable_of (drop l.variable-index l.variables)) ≡ map call_of l.initial.calls.items ++ rules.variable_calls l.schema (map variable_of l.variables)
