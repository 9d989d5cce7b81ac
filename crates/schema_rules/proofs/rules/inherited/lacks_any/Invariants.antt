-- Each so far is in the set.
use Rattle.std.proofs.Common.{◌≡◌, not, List, drop}
use Rattle.std.specs.List.{list_any}
use Rattle.gql_graph.specs.gql_plain.Order.{has_text}
use Rattle.gql_graph.specs.Seen.{Knows}
use Rattle.gql_graph.specs.Texts.{Text}
use Rattle.schema_rules.proofs.rules.inherited.lacks_any.Given as goal

abbrev pub invariant-names : goal.invariant-names
invariant-names l = (ns : List Text) → Knows l.named.names ns →
    list_any (λ one. not (has_text ns one)) (drop l.name-index l.names) ≡ list_any (λ one. not (has_text ns one)) l.names
