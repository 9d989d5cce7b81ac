-- What is known is right for more steps than names were looked at.
use Rattle.std.proofs.Common.{◌≡◌, List}
use Rattle.doc_sites.specs.gql_graph.Graphs.{Tells}
use Rattle.doc_sites.specs.gql_graph.Texts.{Text}
use Rattle.doc_fields.specs.Heads.{keys_found, AreBelow}
use Rattle.doc_fields.specs.Keys.{Sum}
use Rattle.doc_fields.proofs.below.keys_below.Given as goal

abbrev pub invariant-names : goal.invariant-names
invariant-names l = (next : Text → List Text) → Tells l.spreads next → (own : Text → Sum) → ((n : Text) → keys_found l.heads n ≡ own n) → AreBelow next own l.name-index l.below
