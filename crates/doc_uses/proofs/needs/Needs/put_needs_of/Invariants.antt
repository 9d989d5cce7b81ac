-- What is put covers what there was, and what the names so far need.
use Rattle.std.proofs.Common.{◌≡◌, true, false, map, drop}
use Rattle.doc_sites.specs.gql_plain.Order.{has_text}
use Rattle.doc_sites.specs.gql_graph.Texts.{Text}
use Rattle.doc_uses.specs.Needs.{Covers, CoversKnown, uses_needed}
use Rattle.doc_uses.specs.UseView.{use_of}
use Rattle.doc_uses.proofs.needs.Needs.put_needs_of.Given as goal

abbrev pub invariant-names : goal.invariant-names
invariant-names l =
    Covers (map use_of l.all.items) (map use_of l.initial.all.items)
    × ((m : Text) → has_text (map (λ n. n.now) l.names) m ≡ true → has_text (map (λ n. n.now) (drop l.name-index l.names)) m ≡ false → CoversKnown (map use_of l.all.items) (uses_needed l.self m))
