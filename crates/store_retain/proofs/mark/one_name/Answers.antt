-- A text alone is in order.
use Rattle.std.proofs.Common.{◌∷◌, ◌++◌, [], ap, sym, ◌∙◌, subst}
use Rattle.plan_ir.proofs.gql_plain_laws.SortedTexts.{AreInOrder-sorted_texts}
use Rattle.plan_ir.specs.gql_plain.Order.{AreInOrder}
use Rattle.store_retain.proofs.mark.one_name.Goals as goal

pub in_order-requires : goal.in_order-requires
in_order-requires c = subst AreInOrder (sym (c.in_ok-push.ensures.items ∙ ap (λ ns. ns ++ c.in_ok-new.field-0 ∷ []) c.in_ok-names.ensures.items)) (AreInOrder-sorted_texts (c.in_ok-new.field-0 ∷ []))
