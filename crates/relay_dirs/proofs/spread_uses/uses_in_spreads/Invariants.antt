-- What is collected and what is left are the whole.
use Rattle.std.proofs.Common.{◌≡◌, ◌++◌, List, map, drop}
use Rattle.constant_values.specs.gql_graph.Rules.{each}
use Rattle.constant_values.specs.schema_types.Sites.{FragmentAt}
use Rattle.doc_uses.specs.doc_sites.SitesView.{site_of}
use Rattle.relay_rules.specs.Spreads.{uses_at_spread, uses_in_spreads}
use Rattle.relay_dirs.specs.Tables.{Suits}
use Rattle.doc_uses.specs.UseView.{use_of}
use Rattle.relay_dirs.proofs.spread_uses.uses_in_spreads.Given as goal

abbrev pub invariant-sites : goal.invariant-sites
invariant-sites l = (fs : List FragmentAt) → Suits l.table fs
    → map use_of l.uses.items ++ each (uses_at_spread l.schema fs) (map site_of (drop l.site-index l.sites)) ≡ uses_in_spreads l.schema fs (map site_of l.sites)
