-- Each so far is given.
use Rattle.std.proofs.Common.{◌≡◌, List, map, drop}
use Rattle.std.specs.List.{list_all}
use Rattle.constant_values.specs.gql_graph.Seen.{Knows}
use Rattle.constant_values.specs.gql_graph.Texts.{Text}
use Rattle.gql_syntax.specs.gql_plain.Order.{has_text}
use Rattle.relay_dirs.proofs.spread_arguments.are_given.Given as goal

abbrev pub invariant-required : goal.invariant-required
invariant-required l = (ns : List Text) → Knows l.names.names ns
    → list_all (has_text ns) (map (λ n. n.now) (drop l.name-index l.required)) ≡ list_all (has_text ns) (map (λ n. n.now) l.required)
