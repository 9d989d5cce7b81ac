-- Names that lead to others.
use Rattle.std.specs.Prelude.{ℕ, zero, suc, Bool, ◌||◌, List, bytes_eq}
use Rattle.std.specs.List.{list_any}
use Rattle.gql_graph.specs.Texts.{Text}

-- whether a name is another one, or leads there in so many steps at most
abbrev pub leads : (next : Text → List Text) → (steps : ℕ) → (from to : Text) → Bool
leads next zero from to = bytes_eq from to
leads next (suc k) from to = bytes_eq from to || list_any (λ n. leads next k n to) (next from)

-- whether one of these names is the other, or leads there
abbrev pub any_leads : (next : Text → List Text) → (steps : ℕ) → (starts : List Text) → (to : Text) → Bool
any_leads next steps starts to = list_any (λ n. leads next steps n to) starts
