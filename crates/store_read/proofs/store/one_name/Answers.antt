-- One text alone is in order.
use Rattle.std.proofs.Common.{◌∷◌, [], ◌++◌, ap, ◌∙◌}
use Rattle.store_read.proofs.CacheSteps.{one_ordered}
use Rattle.store_read.proofs.store.one_name.Goals as goal

pub in_order-requires : goal.in_order-requires
in_order-requires c = one_ordered c.push.new.self.items c.in_ok-new.field-0 (c.in_ok-push.ensures.items ∙ ap (λ ts. ts ++ c.in_ok-new.field-0 ∷ []) c.in_ok-names.ensures.items)
