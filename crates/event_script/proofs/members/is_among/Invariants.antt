use Rattle.std.proofs.Common.{◌≡◌, drop, map}
use Rattle.store_model.specs.gql_plain.Order.{has_text}
use Rattle.event_script.proofs.members.is_among.Given as goal

abbrev pub invariant-names : goal.invariant-names
invariant-names l =
    has_text (map (λ name. name.now) l.names) l.key ≡ has_text (map (λ name. name.now) (drop l.name-index l.names)) l.key
