-- What is known of the names so far.
use Rattle.std.proofs.Common.{◌≡◌, map, drop}
use Rattle.doc_sites.specs.gql_graph.Texts.{Text}
use Rattle.doc_fields.specs.Heads.{all_of, AreKnown}
use Rattle.doc_fields.specs.Keys.{Sum, join_sums, keys_view}
use Rattle.doc_fields.proofs.below.KeysBelow.find_all.Given as goal

abbrev pub invariant-names : goal.invariant-names
invariant-names l = (f : Text → Sum) → AreKnown l.self f
    → join_sums (keys_view l.all) (all_of f (map (λ n. n.now) (drop l.name-index l.names))) ≡ all_of f (map (λ n. n.now) l.names)
