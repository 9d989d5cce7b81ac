use Rattle.std.proofs.Common.{◌≡◌, drop}
use Rattle.std.specs.List.{list_any}
use Rattle.plan_ir.specs.gql_plain.Order.{has_text}
use Rattle.store_watch.proofs.due.has_any.Given as goal

abbrev pub invariant-texts : goal.invariant-texts
invariant-texts l = list_any (has_text l.ids) (drop l.text-index l.texts) ≡ list_any (has_text l.ids) l.texts
