-- What is noted and what is left are the whole.
use Rattle.std.proofs.Common.{◌≡◌, map, drop}
use Rattle.constant_values.specs.gql_graph.Leasts.{least_from}
use Rattle.constant_values.specs.gql_graph.Rules.{each}
use Rattle.doc_uses.specs.doc_sites.SitesView.{site_of}
use Rattle.relay_rules.specs.RelayRules as rules
use Rattle.relay_dirs.proofs.rules.masks.note_sites.Given as goal

abbrev pub invariant-sites : goal.invariant-sites
invariant-sites l =
    least_from l.least.at (each (rules.masks_wrong_at) (map site_of (drop l.site-index l.sites))) ≡ least_from l.initial.least.at (each (rules.masks_wrong_at) (map site_of l.sites))
