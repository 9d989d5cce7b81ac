use Rattle.std.proofs.Common.{◌≡◌}
use Rattle.std.specs.FinMap.{put}
use Rattle.store_tree.specs.KeyOrder.{key_cmp}
use Rattle.store_tree.proofs.Kept.{in_order-put}
use Rattle.store_tree.proofs.Seen.{seen-put}
use Rattle.store_tree.proofs.tree.Tree.put.Goals as goal

pub invariant_of-result : goal.invariant_of-result
invariant_of-result g c =
    let made : c.put_entry.new.branch.pairs ≡ put key_cmp c.args.key c.args.value.value c.into_root-root.result.pairs = rw c.in_ok-item.ensures at c.in_ok-put_entry.ensures.pairs in
    in_order-put c.into_root-root.result.pairs c.args.key c.args.value.value _ c.into_root-root.ensures.sorted made

pub returns-clause-pairs : goal.returns-clause-pairs
returns-clause-pairs g c =
    let made : c.put_entry.new.branch.pairs ≡ put key_cmp c.args.key c.args.value.value c.into_root-root.result.pairs = rw c.in_ok-item.ensures at c.in_ok-put_entry.ensures.pairs in
    seen-put c.into_root-root.result.pairs c.args.self.pairs c.into_root-root.ensures.pairs c.args.key c.args.value.value _ made
