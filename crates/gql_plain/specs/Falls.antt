-- A plain value has less depth than its tree has nodes.
use Rattle.std.specs.Prelude.{ℕ, ◌≤◌, List, [], ◌∷◌}
use Rattle.std.proofs.Common.{arith}
use Rattle.gql_plain.specs.Tree.{weight, trees_of, trees_weight, members_of, members_weight}
use Rattle.gql_plain.specs.Shown.{tree_of, plain_trees, shown_members}
use Rattle.gql_plain.specs.declared.plain.Plain.{Plain}
use Rattle.gql_plain.specs.declared.plain.Plain.TheVariants.{Null, Bool as Truth, Int, Text, List as Listed, Tree as Object}
use Rattle.gql_plain.specs.declared.plain.Pairs.TheDeep.{deep-Plain}
use Rattle.gql_plain.specs.declared.plain.Pairs.TheShapes.{weighed-Pairs-entries-at-2}
use denote.Param.Weighed.{most}

pub deep-le_weight : (p : Plain) → deep-Plain p ≤ weight (tree_of p)
deep-le_weight Null = omega arith
deep-le_weight (Truth b) = omega arith
deep-le_weight (Int z) = omega arith
deep-le_weight (Text s) = omega arith
deep-le_weight (Listed ts) = omega arith
deep-le_weight (Object ms) = omega arith

pub most_deep-le_trees_weight : (ps : List Plain) → most deep-Plain ps ≤ trees_weight (trees_of (plain_trees ps))
most_deep-le_trees_weight [] = omega arith
most_deep-le_trees_weight (p ∷ ps) = omega (arith, deep-le_weight p, most_deep-le_trees_weight ps)

pub most_deep-le_members_weight : (es : List (List ℕ × Plain)) → most (weighed-Pairs-entries-at-2.weight Plain deep-Plain) es ≤ members_weight (members_of (shown_members es))
most_deep-le_members_weight [] = omega arith
most_deep-le_members_weight (e ∷ es) = omega (arith, deep-le_weight e.1, most_deep-le_members_weight es)
