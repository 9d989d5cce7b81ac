-- What becomes of an entry that is to be written in place: it is in, or all is as it was and the entry comes back.
use Rattle.std.specs.Prelude.{◌≡◌, ℕ, List, Option, Some, None}
use Rattle.std.specs.FinMap.Entries.{put}
use Rattle.store_tree.specs.Contents.{Contents}
use Rattle.store_tree.specs.KeyOrder.{key_cmp}
use Rattle.store_tree.specs.Place.{HasUpTo}
use Rattle.store_tree.specs.Shape.{pairs_of, IsEven}
use Rattle.store_tree.specs.declared.branch.Node.{Node}

-- a leaf has the entry, and as many as it may have
abbrev pub IsLeafWritten : {V : Type 0} → ℕ → List ℕ × V → List (List ℕ × V) → List (List ℕ × V) → Option (List ℕ × V) → Type 0
IsLeafWritten most item before after None = (after ≡ put key_cmp item.0 item.1 before) × HasUpTo most after
IsLeafWritten most item before after (Some back) = (back ≡ item) × (after ≡ before)

-- a node has the entry, is even, and as high as before
abbrev pub IsNodeWritten : {V : Type 0} → List ℕ × V → Node V → Node V → Option (List ℕ × V) → Type 0
IsNodeWritten item before after None = (pairs_of after ≡ put key_cmp item.0 item.1 (pairs_of before)) × (after.height ≡ before.height) × IsEven after
IsNodeWritten item before after (Some back) = (back ≡ item) × (after ≡ before)

-- a branch has the entry, and is as high as before
abbrev pub IsWritten : {V : Type 0} → List ℕ × V → Contents V → Contents V → Option (List ℕ × V) → Type 0
IsWritten item before after None = (after.pairs ≡ put key_cmp item.0 item.1 before.pairs) × (after.height ≡ before.height)
IsWritten item before after (Some back) = (back ≡ item) × (after ≡ before)
