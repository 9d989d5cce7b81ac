-- The JSON value of a plain tree, its tokens, and its compact text.
use Rattle.std.specs.Prelude.{ℕ, ◌++◌, true, false, List, [], ◌∷◌, codes}
use Rattle.std.specs.Fmt.{signed_decimal}
use Rattle.json.specs.Print.{quoted}
use Rattle.json.specs.Token as token
use Rattle.json.specs.Token.{Token}
use Rattle.serde_json.specs.Data.{Data, Items, Members}
use Rattle.serde_json.specs.Data as json
use Rattle.serde_json.specs.Find.{of_integer}
use Rattle.gql_plain.specs.Tree.{Tree, null, truth, whole, text, list, object, Trees, no_trees, tree, Members as Pairs, no_members, member}

abbrev mutual
  pub data_of : Tree → Data
  data_of null = json.null
  data_of (truth b) = json.boolean b
  data_of (whole z) = json.number (of_integer z)
  data_of (text s) = json.string s
  data_of (list ts) = json.array (items_data ts)
  data_of (object ms) = json.object (members_data ms)

  pub items_data : Trees → Items
  items_data no_trees = json.no_items
  items_data (tree t ts) = json.item (data_of t) (items_data ts)

  pub members_data : Pairs → Members
  members_data no_members = json.no_members
  members_data (member k t ms) = json.member k (data_of t) (members_data ms)

-- the JSON tokens: brackets, keys, texts and the rest, in the order in which they stand in the text
abbrev mutual
  pub tree_tokens : Tree → List Token
  tree_tokens null = token.null ∷ []
  tree_tokens (truth b) = token.boolean b ∷ []
  tree_tokens (whole z) = token.number (signed_decimal z) ∷ []
  tree_tokens (text s) = token.string s ∷ []
  tree_tokens (list ts) = token.begin_array ∷ trees_tokens ts
  tree_tokens (object ms) = token.begin_object ∷ members_tokens ms

  -- what follows the `[` of a list, `]` at the end
  pub trees_tokens : Trees → List Token
  trees_tokens no_trees = token.end_array ∷ []
  trees_tokens (tree t ts) = tree_tokens t ++ trees_tokens ts

  -- what follows the `{` of an object, `}` at the end
  pub members_tokens : Pairs → List Token
  members_tokens no_members = token.end_object ∷ []
  members_tokens (member k t ms) = token.key k ∷ (tree_tokens t ++ members_tokens ms)

-- the JSON text without blanks: members in their order, texts between `"` with the shortest escapes
abbrev mutual
  pub compact : Tree → List ℕ
  compact null = codes "null"
  compact (truth true) = codes "true"
  compact (truth false) = codes "false"
  compact (whole z) = signed_decimal z
  compact (text s) = quoted s
  compact (list no_trees) = codes "[]"
  compact (list (tree t ts)) = 91 ∷ (compact t ++ more_trees ts)
  compact (object no_members) = codes "{}"
  compact (object (member k t ms)) = 123 ∷ (quoted k ++ 58 ∷ (compact t ++ more_members ms))

  -- what follows the first of a list, `]` at the end
  pub more_trees : Trees → List ℕ
  more_trees no_trees = 93 ∷ []
  more_trees (tree t ts) = 44 ∷ (compact t ++ more_trees ts)

  -- what follows the first member of an object, `}` at the end
  pub more_members : Pairs → List ℕ
  more_members no_members = 125 ∷ []
  more_members (member k t ms) = 44 ∷ (quoted k ++ 58 ∷ (compact t ++ more_members ms))
