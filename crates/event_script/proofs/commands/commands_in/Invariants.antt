use Rattle.std.proofs.Common.{◌≡◌, ◌++◌, drop, option_map}
use Rattle.serde_json.specs.View.{items_view}
use Rattle.store_model.specs.Events.{commands_in}
use Rattle.event_script.proofs.commands.commands_in.Given as goal

abbrev pub invariant-items : goal.invariant-items
invariant-items l =
    commands_in (items_view l.items.items) ≡ option_map (λ more. l.commands ++ more) (commands_in (items_view (drop l.item-index l.item-items)))
