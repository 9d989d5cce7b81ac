-- The text of a tree's tokens is the tree's compact text.
use Rattle.std.proofs.Common.{◌≡◌, ◌∷◌, ◌++◌, refl, sym, ap, ◌∙◌, []}
use Rattle.json.specs.Print.{print}
use Rattle.json.specs.Token as token
use Rattle.json.specs.Tree as written
use Rattle.serde_json.specs.Written.{outline, items_outline, members_outline}
use Rattle.serde_json.proofs.Texts.{print-outline}
use Rattle.gql_plain.proofs.JsonTexts.{compact_text-data_of, number_text-of_integer}
use Rattle.gql_plain.specs.ToJson.{data_of, items_data, members_data, compact, tree_tokens, trees_tokens, members_tokens}
use Rattle.gql_plain.specs.Tree.{Tree, null, truth, whole, text, list, object, Trees, no_trees, tree, Members as Pairs, no_members, member}

mutual
  tree_tokens-outline : (t : Tree) → tree_tokens t ≡ written.json_tokens (outline (data_of t))
  tree_tokens-outline null = refl
  tree_tokens-outline (truth b) = refl
  tree_tokens-outline (whole z) = ap (λ s. token.number s ∷ []) (sym (number_text-of_integer z))
  tree_tokens-outline (text s) = refl
  tree_tokens-outline (list ts) = ap (λ rest. token.begin_array ∷ rest) (trees_tokens-outline ts)
  tree_tokens-outline (object ms) = ap (λ rest. token.begin_object ∷ rest) (members_tokens-outline ms)

  trees_tokens-outline : (ts : Trees) → trees_tokens ts ≡ written.items_tokens (items_outline (items_data ts))
  trees_tokens-outline no_trees = refl
  trees_tokens-outline (tree t ts) = λ i. tree_tokens-outline t i ++ trees_tokens-outline ts i

  members_tokens-outline : (ms : Pairs) → members_tokens ms ≡ written.members_tokens (members_outline (members_data ms))
  members_tokens-outline no_members = refl
  members_tokens-outline (member k t ms) = λ i. token.key k ∷ (tree_tokens-outline t i ++ members_tokens-outline ms i)

pub print-tree_tokens : (t : Tree) → print (tree_tokens t) ≡ compact t
print-tree_tokens t = ap print (tree_tokens-outline t) ∙ print-outline (data_of t) ∙ compact_text-data_of t
