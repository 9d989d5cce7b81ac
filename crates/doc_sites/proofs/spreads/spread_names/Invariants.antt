-- What is collected and what is left are the whole.
use Rattle.std.proofs.Common.{◌≡◌, ◌++◌, map, drop}
use Rattle.doc_sites.specs.SitesView.{site_of}
use Rattle.schema_types.specs.NameRules as names
use Rattle.doc_sites.proofs.spreads.spread_names.Given as goal

abbrev pub invariant-sites : goal.invariant-sites
invariant-sites l = map (λ n. n.now) l.spreads.items ++ names.names_of_all (names.spreads_in (map site_of (drop l.site-index l.sites))) ≡ names.names_of_all (names.spreads_in (map site_of l.sites))
