use Rattle.store_tree.proofs.Kept.{in_order-without}
use Rattle.store_tree.proofs.Seen.{seen-without}
use Rattle.store_tree.proofs.tree.Tree.take_out.Goals as goal

pub invariant_of-result : goal.invariant_of-result
invariant_of-result g c =
    in_order-without c.into_root-root.result.pairs c.args.key.now _ c.into_root-root.ensures.sorted c.in_ok-take_entry.ensures.pairs

pub returns-clause-pairs : goal.returns-clause-pairs
returns-clause-pairs g c =
    seen-without c.into_root-root.result.pairs c.args.self.pairs c.into_root-root.ensures.pairs c.args.key.now _ c.in_ok-take_entry.ensures.pairs
