-- The conditions copied so far are those that the loop has passed.
use Rattle.std.proofs.Common.{◌≡◌, take}
use Rattle.plan_ir.proofs.guard.Conditions.copy.Given as goal

abbrev pub invariant-conditions : goal.invariant-conditions
invariant-conditions l = l.items.items ≡ take l.condition-index l.condition-items
