-- What is collected and what is left are the whole.
use Rattle.std.proofs.Common.{◌≡◌, ◌++◌, map, drop}
use Rattle.doc_sites.specs.SitesView.{site_of}
use Rattle.schema_types.specs.schema_trees.LocatedView.{name_of}
use Rattle.schema_types.specs.NameRules as names
use Rattle.doc_sites.proofs.spreads.spreads_at.Given as goal

abbrev pub invariant-sites : goal.invariant-sites
invariant-sites l = map name_of l.spreads.items ++ names.spreads_in (map site_of (drop l.site-index l.sites)) ≡ names.spreads_in (map site_of l.sites)
