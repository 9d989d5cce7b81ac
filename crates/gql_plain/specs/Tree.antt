-- Plain trees: null, a truth value, a whole number, a text, a list, or an object.
use Rattle.std.specs.Prelude.{ℕ, ◌+◌, ℤ, Bool, List, [], ◌∷◌}

mutual
  pub data Tree : Type 0 where
    null : Tree
    truth : Bool → Tree
    whole : ℤ → Tree
    text : List ℕ → Tree
    list : Trees → Tree
    object : Members → Tree

  pub data Trees : Type 0 where
    no_trees : Trees
    tree : Tree → Trees → Trees

  pub data Members : Type 0 where
    no_members : Members
    member : List ℕ → Tree → Members → Members

abbrev pub trees_of : List Tree → Trees
trees_of [] = no_trees
trees_of (t ∷ ts) = tree t (trees_of ts)

abbrev pub members_of : List (List ℕ × Tree) → Members
members_of [] = no_members
members_of (m ∷ ms) = member m.0 m.1 (members_of ms)

-- how many nodes
abbrev mutual
  pub weight : Tree → ℕ
  weight null = 1
  weight (truth b) = 1
  weight (whole z) = 1
  weight (text s) = 1
  weight (list ts) = 1 + trees_weight ts
  weight (object ms) = 1 + members_weight ms

  pub trees_weight : Trees → ℕ
  trees_weight no_trees = 0
  trees_weight (tree t ts) = 1 + (weight t + trees_weight ts)

  pub members_weight : Members → ℕ
  members_weight no_members = 0
  members_weight (member k t ms) = 1 + (weight t + members_weight ms)
