-- Names that are kept in a set.
use Rattle.std.specs.Prelude.{◌≡◌, ℕ, List}
use Rattle.std.specs.BTreeSet.{BTreeSet, contains_by}
use Rattle.std.specs.Cmp.Lexicographic.{slice_cmp}
use Rattle.std.specs.Ordering.{nat_cmp}
use Rattle.gql_plain.specs.Order.{has_text}
use Rattle.gql_graph.specs.Texts.{Text}
use denote.Ref.{Bor}

-- the set has these names
abbrev pub Knows : BTreeSet (Bor (List ℕ)) → List Text → Type 0
Knows set names = (n : Text) → contains_by (λ k. slice_cmp nat_cmp n k.now) set ≡ has_text names n
