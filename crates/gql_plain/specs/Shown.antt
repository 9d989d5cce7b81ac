-- The tree that a plain value stands for.
use Rattle.std.specs.Prelude.{List, map, ℕ}
use Rattle.gql_plain.specs.Tree.{Tree, null, truth, whole, text, list, object, trees_of, members_of}
use Rattle.gql_plain.specs.declared.plain.Plain.{Plain}
use Rattle.gql_plain.specs.declared.plain.Plain.TheVariants.{Null, Bool as Truth, Int, Text, List as Listed, Tree as Object}

abbrev pub tree_of : Plain → Tree
tree_of Null = null
tree_of (Truth b) = truth b
tree_of (Int z) = whole z
tree_of (Text s) = text s
tree_of (Listed ts) = list (trees_of ts)
tree_of (Object ms) = object (members_of ms)

abbrev pub plain_trees : List Plain → List Tree
plain_trees ps = map tree_of ps

abbrev pub shown_members : List (List ℕ × Plain) → List (List ℕ × Tree)
shown_members es = map (λ e. (e.0, tree_of e.1)) es
