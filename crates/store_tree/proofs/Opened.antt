-- What an opened branch is seen as.
use Rattle.std.proofs.Common.{◌≡◌, ℕ, List, sym, ap, ◌∙◌}
use Rattle.std.specs.declared.rc.Rc.{Rc}
use Rattle.std.specs.declared.alloc.Global.{Global}
use Rattle.store_tree.specs.Contents.{Contents}
use Rattle.store_tree.specs.Shape.{contents_of, pairs_of}
use Rattle.store_tree.specs.declared.branch.Link.{Link}
use Rattle.store_tree.specs.declared.branch.Link.TheVariants.{Leaf, Fork}
use Rattle.store_tree.specs.declared.branch.Node.{Node}

module _ {V : Type 0} (link : Link V) (d : Contents V) (seen : contents_of link ≡ d) where
  pub leaf-opened : (leaf : Rc (List (List ℕ × V)) Global) → link ≡ Leaf leaf → d.pairs ≡ leaf.value
  leaf-opened leaf p = ap (λ x. x.pairs) (sym seen) ∙ ap (λ o. (contents_of o).pairs) p

  pub pairs-opened : (node : Rc (Node V) Global) → link ≡ Fork node → d.pairs ≡ pairs_of node.value
  pairs-opened node p = ap (λ x. x.pairs) (sym seen) ∙ ap (λ o. (contents_of o).pairs) p

  pub leaf-height : (leaf : Rc (List (List ℕ × V)) Global) → link ≡ Leaf leaf → d.height ≡ 1
  leaf-height leaf p = ap (λ x. x.height) (sym seen) ∙ ap (λ o. (contents_of o).height) p
