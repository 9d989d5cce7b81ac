use Rattle.std.proofs.Common.{◌≡◌, not, take, drop}
use Rattle.std.specs.List.{AllByRecursion, filter}
use Rattle.store_update.specs.gql_plain.Order.{has_text}
use Rattle.store_layers.proofs.sweep.ids_to_drop.Given as goal

abbrev pub invariant-ids : goal.invariant-ids
invariant-ids g l = record {
  noted : l.gone.items ≡ filter (λ id. not (has_text l.keep id)) (take l.id-index l.id-items);
  left : AllByRecursion (λ id. has_text (drop l.from l.keep) id ≡ has_text l.keep id) (drop l.id-index l.id-items);
}
