use Rattle.std.proofs.Common.{◌≡◌, map, string_bytes, sym, ap, subst, ◌∙◌}
use Rattle.std.specs.Map.{keys_of}
use Rattle.std.specs.Prelude.{IfOk}
use Rattle.store_tree.specs.gql_plain.Order.{AreInOrder}
use Rattle.store_source.proofs.InMemory.{records_keys, texts_end, texts_in_order}
use Rattle.store_source.proofs.flat.ids_of.Goals as goal

pub in_order-requires : goal.in_order-requires
in_order-requires c =
    let all : c.ids.ids.items ≡ map string_bytes (keys_of c.args.slots.now.entries) = texts_end c.ids.ids.items c.ids.id-iterator _ c.in-None.ensures.steps.0 c.ids.invariant
    ∙ ap (map string_bytes) (c.into_iter-id-iterator.ensures.into_iter_gives ∙ c.keys-id-items.ensures.rest) in
    subst AreInOrder (sym all) (texts_in_order (keys_of c.args.slots.now.entries) c.len.ensures.ordered)

pub returns : goal.returns
returns c =
    let all : c.ids.ids.items ≡ map string_bytes (keys_of c.args.slots.now.entries) = texts_end c.ids.ids.items c.ids.id-iterator _ c.in-None.ensures.steps.0 c.ids.invariant
    ∙ ap (map string_bytes) (c.into_iter-id-iterator.ensures.into_iter_gives ∙ c.keys-id-items.ensures.rest) in
    subst (λ texts. IfOk c.in_order.result (λ ids. ids ≡ texts)) (all ∙ records_keys c.args.slots.now.entries c.len.ensures.ordered) c.in_order.ensures
