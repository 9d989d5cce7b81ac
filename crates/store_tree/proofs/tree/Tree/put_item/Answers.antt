use Rattle.store_tree.proofs.Kept.{in_order-put}
use Rattle.store_tree.proofs.Seen.{seen-put}
use Rattle.store_tree.proofs.tree.Tree.put_item.Goals as goal

pub invariant_of-result : goal.invariant_of-result
invariant_of-result g c =
    in_order-put c.into_root-root.result.pairs c.args.item.0 c.args.item.1 _ c.into_root-root.ensures.sorted c.in_ok-put_entry.ensures.pairs

pub returns-clause-pairs : goal.returns-clause-pairs
returns-clause-pairs g c =
    seen-put c.into_root-root.result.pairs c.args.self.pairs c.into_root-root.ensures.pairs c.args.item.0 c.args.item.1 _ c.in_ok-put_entry.ensures.pairs
