-- Ranks of names, which rise along no link.
use Rattle.std.specs.Prelude.{◌≡◌, ℕ, ◌≤◌, ◌<◌, true, List, unwrap_or}
use Rattle.std.specs.BTreeMap.{get_by}
use Rattle.std.specs.Cmp.Lexicographic.{slice_cmp}
use Rattle.std.specs.Ordering.{nat_cmp}
use Rattle.gql_plain.specs.Order.{has_text}
use Rattle.gql_graph.specs.Texts.{Text}
use Rattle.gql_graph.specs.declared.ranks.Ranks.{Ranks}

-- the rank of a name: 0 where it has none
abbrev pub rank_in : Ranks → Text → ℕ
rank_in r n = unwrap_or (get_by (λ k. slice_cmp nat_cmp n k.now) r.ranks) 0

-- none of these names is above a rank
abbrev pub NoneAbove : (rank : Text → ℕ) → (top : ℕ) → List Text → Type 0
NoneAbove rank top ns = (m : Text) → has_text ns m ≡ true → rank m ≤ top

-- all of these names are below a rank
abbrev pub AllBelow : (rank : Text → ℕ) → (top : ℕ) → List Text → Type 0
AllBelow rank top ns = (m : Text) → has_text ns m ≡ true → rank m < top

-- ranks rise along no link
abbrev pub NeverRises : (rank : Text → ℕ) → (next : Text → List Text) → Type 0
NeverRises rank next = (n : Text) → NoneAbove rank (rank n) (next n)
