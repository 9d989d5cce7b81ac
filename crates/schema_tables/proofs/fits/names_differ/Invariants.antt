-- The names that are passed are seen.
use Rattle.std.proofs.Common.{◌≡◌, ◌≤◌, length, drop}
use Rattle.gql_graph.specs.Seen.{Knows}
use Rattle.schema_tables.proofs.fits.names_differ.Given as goal
use Rattle.schema_tables.specs.Required.{all_differ, member_names}

abbrev pub invariant-fields : goal.invariant-fields
invariant-fields l =
    (l.left ≤ length l.fields)
    × Knows l.seen.names (member_names (drop l.left l.fields))
    × (l.differ ≡ all_differ (member_names (drop l.left l.fields)))

abbrev pub decreases-fields : goal.decreases-fields
decreases-fields l = l.left
