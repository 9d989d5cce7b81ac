use Rattle.std.proofs.Common.{◌≡◌, ◌++◌, drop, option_map}
use Rattle.serde_json.specs.View.{items_view}
use Rattle.store_model.specs.Events.{ids_or_nulls}
use Rattle.event_script.proofs.values.ids_or_nulls.Given as goal

abbrev pub invariant-items : goal.invariant-items
invariant-items l =
    ids_or_nulls (items_view l.items.items) ≡ option_map (λ more. l.ids ++ more) (ids_or_nulls (items_view (drop l.item-index l.item-items)))
