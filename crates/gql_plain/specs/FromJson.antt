-- The plain tree of a JSON value.
use Rattle.std.specs.Prelude.{◌&&◌, Bool, true, pos, is_some, unwrap_or}
use Rattle.serde_json.specs.Data.{Data, Items, Members}
use Rattle.serde_json.specs.Data as json
use Rattle.serde_json.specs.Find.{as_i64}
use Rattle.gql_plain.specs.Tree.{Tree, null, truth, whole, text, list, object, Trees, no_trees, tree, Members as Pairs, no_members, member}

-- whether each number in the value has an i64
abbrev mutual
  pub is_whole : Data → Bool
  is_whole json.null = true
  is_whole (json.boolean b) = true
  is_whole (json.number n) = is_some (as_i64 n)
  is_whole (json.string s) = true
  is_whole (json.array ds) = items_are_whole ds
  is_whole (json.object ms) = members_are_whole ms

  pub items_are_whole : Items → Bool
  items_are_whole json.no_items = true
  items_are_whole (json.item d ds) = is_whole d && items_are_whole ds

  pub members_are_whole : Members → Bool
  members_are_whole json.no_members = true
  members_are_whole (json.member k d ms) = is_whole d && members_are_whole ms

-- the tree of a value whose numbers are whole; any other number counts as 0
abbrev mutual
  pub plain_tree : Data → Tree
  plain_tree json.null = null
  plain_tree (json.boolean b) = truth b
  plain_tree (json.number n) = whole (unwrap_or (as_i64 n) (pos 0))
  plain_tree (json.string s) = text s
  plain_tree (json.array ds) = list (plain_trees ds)
  plain_tree (json.object ms) = object (plain_members ms)

  pub plain_trees : Items → Trees
  plain_trees json.no_items = no_trees
  plain_trees (json.item d ds) = tree (plain_tree d) (plain_trees ds)

  pub plain_members : Members → Pairs
  plain_members json.no_members = no_members
  plain_members (json.member k d ms) = member k (plain_tree d) (plain_members ms)
