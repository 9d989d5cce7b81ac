-- Worked marks.
use Rattle.std.proofs.Common.{◌≡◌, [], ◌∷◌, codes, Some, None, refl}
use Rattle.store_record.specs.gql_plain.Tree.{Tree, null, text, list, object, no_trees, tree, no_members, member}
use Rattle.image_marks.specs.Flat.{flat, quote, unflat}

sample : Tree
sample = object (member (codes "a") (list (tree null (tree (text (codes "[")) no_trees))) (member (codes "b") (object no_members) no_members))

marks_of_sample : flat sample ≡ text (codes "{") ∷ quote (codes "a") ∷ text (codes "[") ∷ null ∷ quote (codes "[") ∷ text (codes "]") ∷ quote (codes "b") ∷ text (codes "{") ∷ text (codes "}") ∷ text (codes "}") ∷ []
unfolding sample
marks_of_sample = refl

read_sample : unflat (flat sample) ≡ Some sample
unfolding sample
read_sample = refl

-- keys in another order are refused
refused : unflat (text (codes "{") ∷ quote (codes "b") ∷ null ∷ quote (codes "a") ∷ null ∷ text (codes "}") ∷ []) ≡ None
refused = refl
