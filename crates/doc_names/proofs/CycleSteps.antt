-- Where fragments lead.
use Rattle.std.proofs.Common.{◌≡◌, ℕ, List, [], ◌∷◌}
use Rattle.doc_sites.proofs.gql_plain_laws.Booleans.{or_false}
use Rattle.doc_sites.specs.gql_graph.Reached.{leads, any_leads}
use Rattle.doc_sites.specs.gql_graph.Texts.{Text}

-- one name alone
pub reached_alone : (next : Text → List Text) (steps : ℕ) (n to : Text) → any_leads next steps (n ∷ []) to ≡ leads next steps n to
reached_alone next steps n to = or_false (leads next steps n to)
