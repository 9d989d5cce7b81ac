-- The tokens of a value's marks are those of the marks, one after another.
use Rattle.std.proofs.Common.{◌≡◌, List, ◌∷◌, ◌++◌, codes, refl, sym, ap, ◌∙◌, append_assoc}
use Rattle.json.specs.Token as token
use Rattle.store_record.specs.gql_plain.ToJson.{trees_tokens}
use Rattle.store_record.specs.gql_plain.Tree.{Tree, null, truth, whole, text, list, object, Trees, no_trees, tree, trees_of, Members, no_members, member}
use Rattle.image_marks.specs.Flat.{flat, flat_items, flat_members}
use Rattle.image_marks.specs.MarkTokens.{flat_tokens, items_tokens, members_tokens}

mutual
  pub flat_tokens-are : (t : Tree) (rest : List Tree) → trees_tokens (trees_of (flat t ++ rest)) ≡ flat_tokens t ++ trees_tokens (trees_of rest)
  flat_tokens-are null rest = refl
  flat_tokens-are (truth b) rest = refl
  flat_tokens-are (whole z) rest = refl
  flat_tokens-are (text s) rest = refl
  flat_tokens-are (list ts) rest = ap (λ us. token.string (codes "[") ∷ us) (items_tokens-are ts rest)
  flat_tokens-are (object ms) rest = ap (λ us. token.string (codes "{") ∷ us) (members_tokens-are ms rest)

  items_tokens-are : (ts : Trees) (rest : List Tree) → trees_tokens (trees_of (flat_items ts ++ rest)) ≡ items_tokens ts ++ trees_tokens (trees_of rest)
  items_tokens-are no_trees rest = refl
  items_tokens-are (tree t ts) rest =
      ap (λ us. trees_tokens (trees_of us)) (append_assoc (flat t) (flat_items ts) rest)
      ∙ flat_tokens-are t (flat_items ts ++ rest) ∙ ap (λ us. flat_tokens t ++ us) (items_tokens-are ts rest)
      ∙ sym (append_assoc (flat_tokens t) (items_tokens ts) (trees_tokens (trees_of rest)))

  members_tokens-are : (ms : Members) (rest : List Tree) → trees_tokens (trees_of (flat_members ms ++ rest)) ≡ members_tokens ms ++ trees_tokens (trees_of rest)
  members_tokens-are no_members rest = refl
  members_tokens-are (member k t ms) rest =
      ap (λ us. token.string (codes "'" ++ k) ∷ us)
      (ap (λ us. trees_tokens (trees_of us)) (append_assoc (flat t) (flat_members ms) rest)
      ∙ flat_tokens-are t (flat_members ms ++ rest) ∙ ap (λ us. flat_tokens t ++ us) (members_tokens-are ms rest)
      ∙ sym (append_assoc (flat_tokens t) (members_tokens ms) (trees_tokens (trees_of rest))))
