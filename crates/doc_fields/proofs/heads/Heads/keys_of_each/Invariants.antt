-- What is gathered and what is left are the whole.
use Rattle.std.proofs.Common.{◌≡◌, map, drop}
use Rattle.doc_fields.specs.Heads.{all_of, keys_found}
use Rattle.doc_fields.specs.Keys.{join_sums, keys_view}
use Rattle.doc_fields.proofs.heads.Heads.keys_of_each.Given as goal

abbrev pub invariant-names : goal.invariant-names
invariant-names l = join_sums (keys_view l.keys) (all_of (keys_found l.self) (map (λ n. n.now) (drop l.name-index l.names))) ≡ all_of (keys_found l.self) (map (λ n. n.now) l.names)
