-- What is collected and what is left are the whole.
use Rattle.std.proofs.Common.{◌≡◌, ◌++◌, map, drop}
use Rattle.std.specs.List.{filter_map}
use Rattle.doc_sites.specs.SitesView.{site_of}
use Rattle.doc_sites.specs.schema_trees.LocatedView.{name_of}
use Rattle.doc_sites.specs.schema_types.NameRules as names
use Rattle.doc_names.proofs.named.conditions_at.Given as goal

abbrev pub invariant-sites : goal.invariant-sites
invariant-sites l = map name_of l.conditions.items ++ filter_map names.condition_at (map site_of (drop l.site-index l.sites)) ≡ filter_map names.condition_at (map site_of l.sites)
