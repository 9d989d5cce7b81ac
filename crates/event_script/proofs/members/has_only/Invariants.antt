use Rattle.std.proofs.Common.{◌≡◌, map}
use Rattle.serde_json.specs.View.{members_view}
use Rattle.store_model.specs.Events.{has_only}
use Rattle.event_script.proofs.members.has_only.Given as goal

abbrev pub invariant-members : goal.invariant-members
invariant-members l =
    has_only (map (λ name. name.now) l.names) (members_view l.members.entries) ≡ has_only (map (λ name. name.now) l.names) (members_view l.key-iterator)
