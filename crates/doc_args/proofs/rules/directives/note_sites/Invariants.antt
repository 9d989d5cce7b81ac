-- What is noted and what is left are the whole.
use Rattle.std.proofs.Common.{◌≡◌, map, drop}
use Rattle.doc_uses.specs.schema_types.ArgumentRules as rules
use Rattle.gql_graph.specs.Rules.{each}
use Rattle.gql_graph.specs.Leasts.{least_from}
use Rattle.doc_uses.specs.doc_sites.SitesView.{site_of}
use Rattle.doc_args.proofs.rules.directives.note_sites.Given as goal

abbrev pub invariant-sites : goal.invariant-sites
invariant-sites l =
    least_from l.least.at (each (rules.directed_wrong l.schema) (map rules.directed_at (map site_of (drop l.site-index l.sites)))) ≡ least_from l.initial.least.at (each (rules.directed_wrong l.schema) (map rules.directed_at (map site_of l.sites)))
