use Rattle.std.proofs.Common.{◌≡◌, ◌++◌, refl, ◌∙◌, ap, subst}
use Rattle.store_tree.specs.gql_plain.Order.{AreSortedOf}
use Rattle.store_tree.specs.Contents.{keys_of}
use Rattle.store_source.proofs.Laid.{laid_keys}
use Rattle.store_source.proofs.versions.VersionsRecordSource.ids.Goals as goal

pub returns : goal.returns
returns c =
    let changes = c.self.inside.newest.items in
    let pairs = c.self.inside.tree.pairs in
    let asked : c.in_ok-changed.changed.items ≡ keys_of changes = c.in_ok-changed.ensures ∙ ap keys_of c.deref.ensures.value in
    laid_keys changes pairs c.args.self.now c.self.view_is c.keys_with.ensures.in_order (keys_of pairs) c.in_ok-ids.ids refl
    (subst (λ ks. AreSortedOf (ks ++ keys_of pairs) c.in_ok-ids.ids) asked c.in_ok-ids.ensures.keys)
