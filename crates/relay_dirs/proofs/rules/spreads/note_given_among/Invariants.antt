-- What is noted and what is left are the whole.
use Rattle.std.proofs.Common.{◌≡◌, List, map, drop}
use Rattle.constant_values.specs.gql_graph.Leasts.{least_from}
use Rattle.constant_values.specs.gql_graph.Rules.{each}
use Rattle.constant_values.specs.schema_types.Sites.{FragmentAt}
use Rattle.doc_uses.specs.doc_sites.SitesView.{site_of}
use Rattle.relay_rules.specs.Spreads.{given_wrong_at}
use Rattle.relay_dirs.specs.Tables.{Suits}
use Rattle.relay_dirs.proofs.rules.spreads.note_given_among.Given as goal

abbrev pub invariant-sites : goal.invariant-sites
invariant-sites l = (fs : List FragmentAt) → Suits l.table fs
    → least_from l.least.at (each (given_wrong_at l.schema fs) (map site_of (drop l.site-index l.sites))) ≡ least_from l.initial.least.at (each (given_wrong_at l.schema fs) (map site_of l.sites))
