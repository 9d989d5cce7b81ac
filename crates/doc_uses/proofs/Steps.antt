-- What is noted, in other words.
use Rattle.std.proofs.Common.{◌≡◌, ℕ, Bool, not, List, Option, ap, ◌∙◌}
use Rattle.doc_sites.specs.gql_graph.Leasts.{least_from}
use Rattle.doc_sites.specs.gql_graph.Rules.{wrong}

-- what is noted for one that is wrong in the same case
pub noted_if_not : (o p : Option ℕ) (a b : Bool) (at : ℕ) → p ≡ least_from o (wrong (not a) at) → a ≡ b → p ≡ least_from o (wrong (not b) at)
noted_if_not o p a b at e h = e ∙ ap (λ (x : Bool). least_from o (wrong (not x) at)) h

pub noted_same : (o p : Option ℕ) (a b : List ℕ) → p ≡ least_from o a → a ≡ b → p ≡ least_from o b
noted_same o p a b e h = e ∙ ap (least_from o) h
