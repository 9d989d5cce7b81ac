-- What the names so far need is known and harmless.
use Rattle.std.proofs.Common.{◌≡◌, true, false, List, map, drop}
use Rattle.doc_sites.specs.gql_plain.Order.{has_text}
use Rattle.doc_sites.specs.schema_types.Sites.{VariableAt}
use Rattle.doc_sites.specs.gql_graph.Texts.{Text}
use Rattle.doc_uses.specs.Named.{NamesVariables}
use Rattle.doc_uses.specs.Needs.{IsKnownHarmless, uses_needed}
use Rattle.doc_uses.proofs.wrong_uses.are_met.Given as goal

abbrev pub invariant-names : goal.invariant-names
invariant-names l =
    (vs : List VariableAt) → NamesVariables l.table vs → (m : Text) → has_text (map (λ n. n.now) l.names) m ≡ true
    → has_text (map (λ n. n.now) (drop l.name-index l.names)) m ≡ false → IsKnownHarmless vs l.least.at (uses_needed l.needs m)
