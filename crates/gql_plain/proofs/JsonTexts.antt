-- The text of a plain tree is the text of its JSON value.
use Rattle.std.proofs.Common.{◌≡◌, ◌++◌, ◌∷◌, true, false, ℤ, pos, negsuc, refl}
use Rattle.serde_json.specs.Find.{is_float, of_integer}
use Rattle.serde_json.specs.Written.{has_float, items_have_float, members_have_float, compact_text, items_text, members_text, number_text}
use Rattle.std.specs.Fmt.{signed_decimal}
use Rattle.json.specs.Print.{quoted}
use Rattle.gql_plain.specs.ToJson.{data_of, items_data, members_data, compact, more_trees, more_members}
use Rattle.gql_plain.specs.Tree.{Tree, null, truth, whole, text, list, object, Trees, no_trees, tree, Members as Pairs, no_members, member}

is_float-of_integer : (z : ℤ) → is_float (of_integer z) ≡ false
is_float-of_integer (pos n) = refl
is_float-of_integer (negsuc n) = refl

pub number_text-of_integer : (z : ℤ) → number_text (of_integer z) ≡ signed_decimal z
number_text-of_integer (pos n) = refl
number_text-of_integer (negsuc n) = refl

mutual
  pub has_float-data_of : (t : Tree) → has_float (data_of t) ≡ false
  has_float-data_of null = refl
  has_float-data_of (truth b) = refl
  has_float-data_of (whole z) = is_float-of_integer z
  has_float-data_of (text s) = refl
  has_float-data_of (list ts) = items_have_float-items_data ts
  has_float-data_of (object ms) = members_have_float-members_data ms

  items_have_float-items_data : (ts : Trees) → items_have_float (items_data ts) ≡ false
  items_have_float-items_data no_trees = refl
  items_have_float-items_data (tree t ts) = rw (has_float-data_of t) (items_have_float-items_data ts)

  members_have_float-members_data : (ms : Pairs) → members_have_float (members_data ms) ≡ false
  members_have_float-members_data no_members = refl
  members_have_float-members_data (member k t ms) = rw (has_float-data_of t) (members_have_float-members_data ms)

mutual
  pub compact_text-data_of : (t : Tree) → compact_text (data_of t) ≡ compact t
  compact_text-data_of null = refl
  compact_text-data_of (truth true) = refl
  compact_text-data_of (truth false) = refl
  compact_text-data_of (whole z) = number_text-of_integer z
  compact_text-data_of (text s) = refl
  compact_text-data_of (list no_trees) = refl
  compact_text-data_of (list (tree t ts)) = λ i. 91 ∷ (compact_text-data_of t i ++ items_text-items_data ts i)
  compact_text-data_of (object no_members) = refl
  compact_text-data_of (object (member k t ms)) = λ i. 123 ∷ (quoted k ++ 58 ∷ (compact_text-data_of t i ++ members_text-members_data ms i))

  items_text-items_data : (ts : Trees) → items_text true (items_data ts) ≡ more_trees ts
  items_text-items_data no_trees = refl
  items_text-items_data (tree t ts) = λ i. 44 ∷ (compact_text-data_of t i ++ items_text-items_data ts i)

  members_text-members_data : (ms : Pairs) → members_text true (members_data ms) ≡ more_members ms
  members_text-members_data no_members = refl
  members_text-members_data (member k t ms) = λ i. 44 ∷ (quoted k ++ 58 ∷ (compact_text-data_of t i ++ members_text-members_data ms i))
