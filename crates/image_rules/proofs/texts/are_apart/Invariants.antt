use Rattle.std.proofs.Common.{◌≡◌, ◌≤◌, true, drop, map, length}
use Rattle.gql_graph.specs.Seen.{Knows}
use Rattle.image_text.specs.Images.{are_apart}
use Rattle.image_rules.proofs.texts.are_apart.Given as goal

abbrev pub invariant-names : goal.invariant-names
invariant-names l = record {
  known : Knows l.seen.names (map (λ n. n.now) (drop l.at l.names));
  apart : are_apart (map (λ n. n.now) (drop l.at l.names)) ≡ true;
  within : l.at ≤ length l.names;
}

abbrev pub decreases-names : goal.decreases-names
decreases-names l = l.at
