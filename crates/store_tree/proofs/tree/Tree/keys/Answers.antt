use Rattle.std.proofs.Common.{◌≡◌, ◌∙◌, ap}
use Rattle.std.proofs.lemmas.Result.{IfOk-weaker}
use Rattle.gql_plain.specs.Order.{AreSortedOf}
use Rattle.store_tree.specs.Contents.{keys_of}
use Rattle.store_tree.proofs.ByBytes.{sorted_keys}
use Rattle.store_tree.proofs.tree.Tree.keys.Goals as goal

pub returns-clause-keys : goal.returns-clause-keys
returns-clause-keys g c =
    let items = c.add_keys.new.keys.items in
    let made : items ≡ keys_of c.root.result.now.pairs = rw c.new-items.ensures.items at c.in_ok-add_keys.ensures in
    IfOk-weaker c.sort.result (AreSortedOf items) (λ ids. ids ≡ keys_of c.args.self.now.pairs)
    (λ ids h. sorted_keys c.root.result.now.pairs items ids made h ∙ ap keys_of c.root.ensures.pairs) c.sort.ensures
