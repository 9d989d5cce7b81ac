-- The tokens of the marks of a value.
use Rattle.std.specs.Prelude.{List, [], ◌∷◌, ◌++◌, codes}
use Rattle.std.specs.Fmt.{signed_decimal}
use Rattle.json.specs.Token as token
use Rattle.json.specs.Token.{Token}
use Rattle.store_record.specs.gql_plain.Tree.{Tree, null, truth, whole, text, list, object, Trees, no_trees, tree, Members, no_members, member}

abbrev mutual
  pub flat_tokens : Tree → List Token
  flat_tokens null = token.null ∷ []
  flat_tokens (truth b) = token.boolean b ∷ []
  flat_tokens (whole z) = token.number (signed_decimal z) ∷ []
  flat_tokens (text s) = token.string (codes "'" ++ s) ∷ []
  flat_tokens (list ts) = token.string (codes "[") ∷ items_tokens ts
  flat_tokens (object ms) = token.string (codes "{") ∷ members_tokens ms

  pub items_tokens : Trees → List Token
  items_tokens no_trees = token.string (codes "]") ∷ []
  items_tokens (tree t ts) = flat_tokens t ++ items_tokens ts

  pub members_tokens : Members → List Token
  members_tokens no_members = token.string (codes "}") ∷ []
  members_tokens (member k t ms) = token.string (codes "'" ++ k) ∷ (flat_tokens t ++ members_tokens ms)
