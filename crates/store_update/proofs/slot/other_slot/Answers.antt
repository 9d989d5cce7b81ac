use Rattle.std.proofs.Common.{Some, option_copied, true≢false, sym, ◌∙◌}
use Rattle.store_update.proofs.Equal.{slot_eq-Decides}
use Rattle.store_update.proofs.slot.other_slot.Goals as goal

pub returns-then-are_equal-clause-same : goal.returns-then-are_equal-clause-same
returns-then-are_equal-clause-same c = (slot_eq-Decides (option_copied c.args.before) (Some c.args.slot)).0 (sym c.are_equal.ensures ∙ c.if-are_equal.true)

pub returns-clause-new : goal.returns-clause-new
returns-clause-new c same =
    absurd (true≢false (sym ((slot_eq-Decides (option_copied c.args.before) (Some c.args.slot)).1 (sym same)) ∙ sym c.are_equal.ensures ∙ c.if-are_equal.false))
