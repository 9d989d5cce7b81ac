-- Those so far hold.
use Rattle.std.proofs.Common.{◌≡◌, drop}
use Rattle.std.specs.List.{list_all}
use Rattle.plan_ir.specs.NormalMeaning.{condition_passes}
use Rattle.plan_groups.proofs.guards.conditions_pass.Given as goal

abbrev pub invariant-conditions : goal.invariant-conditions
invariant-conditions l = list_all (condition_passes l.env.values) l.conditions ≡ list_all (condition_passes l.env.values) (drop l.condition-index l.condition-items)
