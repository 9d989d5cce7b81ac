-- What a graph of names tells, and what a search in it finds.
use Rattle.std.specs.Prelude.{◌≡◌, false, cond, List, [], ◌∷◌, map, Option, Some, None, option_map, unwrap_or, bytes_eq}
use Rattle.std.specs.BTreeMap.{get_by}
use Rattle.std.specs.Cmp.Lexicographic.{slice_cmp}
use Rattle.std.specs.Ordering.{nat_cmp}
use Rattle.gql_plain.specs.Order.{has_text}
use Rattle.gql_graph.specs.declared.graph.Graph.{Graph}
use Rattle.gql_graph.specs.Texts.{Text}

-- the names that a name leads to, where it was put
abbrev pub links_of : Graph → Text → Option (List Text)
links_of graph n = option_map (λ links. map (λ m. m.now) links.items) (get_by (λ k. slice_cmp nat_cmp n k.now) graph.links)

-- of names with those that they lead to: what the first of a name says
abbrev pub first_next : List (Text × List Text) → Text → Option (List Text)
first_next [] n = None
first_next (p ∷ ps) n = cond (bytes_eq p.0 n) (Some p.1) (first_next ps n)

-- a name that is not there leads to none
abbrev pub next_in : List (Text × List Text) → Text → List Text
next_in pairs n = unwrap_or (first_next pairs n) []

-- these names were put, each with those that it leads to
abbrev pub Holds : Graph → List (Text × List Text) → Type 0
Holds graph pairs = (n : Text) → links_of graph n ≡ first_next pairs n

-- each name leads to these
abbrev pub Tells : Graph → (next : Text → List Text) → Type 0
Tells graph next = (n : Text) → unwrap_or (links_of graph n) [] ≡ next n

-- each name stands once
abbrev pub Once : List Text → Type 0
Once [] = Unit {0}
Once (n ∷ ns) = (has_text ns n ≡ false) × Once ns

-- those that are not seen yet, each once
abbrev pub unseen_names : (seen : List Text) → List Text → List Text
unseen_names seen [] = []
unseen_names seen (n ∷ ns) = cond (has_text seen n) (unseen_names seen ns) (n ∷ unseen_names (n ∷ seen) ns)
