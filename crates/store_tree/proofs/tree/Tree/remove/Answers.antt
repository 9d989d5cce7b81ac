use Rattle.store_tree.proofs.Kept.{in_order-without}
use Rattle.store_tree.proofs.Seen.{seen-without}
use Rattle.store_tree.proofs.tree.Tree.remove.Goals as goal

pub invariant_of-result : goal.invariant_of-result
invariant_of-result g c =
    in_order-without c.root-root.result.now.pairs c.args.key.now _ c.root-root.ensures.sorted c.in_ok-without_entry.ensures.pairs

pub returns-clause-pairs : goal.returns-clause-pairs
returns-clause-pairs g c =
    seen-without c.root-root.result.now.pairs c.args.self.now.pairs c.root-root.ensures.pairs c.args.key.now _ c.in_ok-without_entry.ensures.pairs
