-- What is put and what is left are the whole.
use Rattle.std.proofs.Common.{◌≡◌, ◌++◌, map, drop}
use Rattle.doc_uses.specs.schema_types.ArgumentRules as rules
use Rattle.gql_graph.specs.Rules.{each}
use Rattle.doc_uses.specs.doc_sites.SitesView.{site_of}
use Rattle.doc_args.specs.CallView.{call_of}
use Rattle.doc_args.proofs.calls.put_sites.Given as goal

abbrev pub invariant-sites : goal.invariant-sites
invariant-sites l =
    map call_of l.calls.items ++ each (rules.calls_at l.schema) (map site_of (drop l.site-index l.sites)) ≡ map call_of l.initial.calls.items ++ each (rules.calls_at l.schema) (map site_of l.sites)
