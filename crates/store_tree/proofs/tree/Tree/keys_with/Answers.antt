use Rattle.std.proofs.Common.{◌≡◌, ◌++◌, subst}
use Rattle.std.proofs.lemmas.Result.{IfOk-weaker}
use Rattle.gql_plain.specs.Order.{AreSortedOf}
use Rattle.store_tree.specs.Contents.{keys_of}
use Rattle.store_tree.proofs.ByBytes.{sorted_with}
use Rattle.store_tree.proofs.tree.Tree.keys_with.Goals as goal

pub returns-clause-keys : goal.returns-clause-keys
returns-clause-keys g c =
    let more = c.args.more.items in
    let items = c.add_keys.new.keys.items in
    let made : items ≡ more ++ keys_of c.root.result.now.pairs = c.in_ok-add_keys.ensures in
    IfOk-weaker c.sort.result (AreSortedOf items) (AreSortedOf (more ++ keys_of c.args.self.now.pairs))
    (λ ids h. subst (λ pairs. AreSortedOf (more ++ keys_of pairs) ids) c.root.ensures.pairs (sorted_with c.root.result.now.pairs more items ids made h)) c.sort.ensures
