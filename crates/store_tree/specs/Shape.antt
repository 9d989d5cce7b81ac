-- What a branch of the tree is seen as, and what holds of it.
use Rattle.std.specs.Prelude.{◌≡◌, ℕ, ◌+◌, ◌^◌, ◌<◌, ◌≤◌, max, List, [], ◌∷◌, ◌++◌, length}
use Rattle.store_tree.specs.Contents.{Contents}
use Rattle.store_tree.specs.Heights.{least, DifferByAtMost}
use Rattle.store_tree.specs.Place.{HasUpTo}
use Rattle.store_tree.specs.declared.branch.Link.{Link}
use Rattle.store_tree.specs.declared.branch.Link.TheVariants.{Empty, Leaf, Fork}
use Rattle.store_tree.specs.declared.branch.Node.{Node}
use Rattle.store_tree.specs.declared.leaf.TheConstants.{MOST}

-- the entries before a node's own, that one, and those after it
abbrev pub pairs_of : {V : Type 0} → Node V → List (List ℕ × V)
pairs_of n = n.left.pairs ++ n.item ∷ n.right.pairs

-- a leaf with an entry has the height 1
abbrev pub contents_of : {V : Type 0} → Link V → Contents V
contents_of Empty = record { pairs = []; height = 0 }
contents_of (Leaf leaf) = record { pairs = leaf.value; height = 1 }
contents_of (Fork node) = record { pairs = pairs_of node.value; height = node.value.height }

-- the sides' heights differ by at most one, the stored count and height are right, and a node of its height
-- has enough entries, of which 64 bits hold the count
abbrev pub IsEven : {V : Type 0} → Node V → Type 0
IsEven n = DifferByAtMost 1 n.left.height n.right.height
    × (n.height ≡ max n.left.height n.right.height + 1)
    × (n.count ≡ length (pairs_of n))
    × (least n.height ≤ n.count)
    × (n.count < 2 ^ 64)

-- a leaf has an entry, and not too many; a node is even
abbrev pub IsBalanced : {V : Type 0} → Link V → Type 0
IsBalanced Empty = Unit {0}
IsBalanced (Leaf leaf) = HasUpTo MOST leaf.value
IsBalanced (Fork node) = IsEven node.value
