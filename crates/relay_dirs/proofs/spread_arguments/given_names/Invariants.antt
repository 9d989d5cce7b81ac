-- The names that are passed are seen.
use Rattle.std.proofs.Common.{◌≤◌, length, map, drop}
use Rattle.constant_values.specs.gql_graph.Seen.{Knows}
use Rattle.doc_uses.specs.doc_sites.SitesView.{argument_of}
use Rattle.relay_dirs.specs.GivenNames.{given_names}
use Rattle.relay_dirs.proofs.spread_arguments.given_names.Given as goal

abbrev pub decreases-given : goal.decreases-given
decreases-given l = l.left

abbrev pub invariant-given : goal.invariant-given
invariant-given l = (l.left ≤ length l.given) × Knows l.seen.names (given_names (map argument_of (drop l.left l.given)))
