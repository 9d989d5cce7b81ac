-- What is put and what is left are the whole.
use Rattle.std.proofs.Common.{◌≡◌, ◌++◌, map, drop}
use Rattle.doc_uses.specs.schema_types.ArgumentRules as rules
use Rattle.doc_uses.specs.doc_sites.SitesView.{directive_of}
use Rattle.doc_args.specs.CallView.{call_of}
use Rattle.doc_args.proofs.calls.put_directives.Given as goal

abbrev pub invariant-directives : goal.invariant-directives
invariant-directives l =
    map call_of l.calls.items ++ rules.directive_calls l.schema (map directive_of (drop l.directive-index l.directives)) ≡ map call_of l.initial.calls.items ++ rules.directive_calls l.schema (map directive_of l.directives)
