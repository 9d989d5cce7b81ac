-- What stands in both lists so far, and what is left.
use Rattle.std.proofs.Common.{◌≡◌, ◌&&◌, ◌||◌, drop}
use Rattle.plan_ir.specs.gql_plain.Order.{has_text}
use Rattle.plan_ir.specs.store_record.Keys.{Text}
use Rattle.store_retain.proofs.table.common.Given as goal

abbrev pub invariant-texts : goal.invariant-texts
invariant-texts l = (T : Text) → (has_text l.texts.items T || (has_text (drop l.text-index l.text-items) T && has_text l.other T)) ≡ (has_text l.text-items T && has_text l.other T)
