-- What becomes of a node that is written in place.
use Rattle.std.specs.Prelude.{◌≡◌, ℕ, List, Option, Some, None}
use Rattle.store_tree.specs.Contents.{Contents}
use Rattle.store_tree.specs.Shape.{pairs_of, IsEven}
use Rattle.store_tree.specs.declared.branch.Node.{Node}

-- the pairs are those of the node, which is even, or of another branch in its stead, and its height fits
abbrev pub IsMade : {V : Type 0} → List (List ℕ × V) → (ℕ → Type 0) → Node V → Option (Contents V) → Type 0
IsMade pairs Fits node None = IsEven node × (pairs_of node ≡ pairs) × Fits node.height
IsMade pairs Fits node (Some other) = (other.pairs ≡ pairs) × Fits other.height
