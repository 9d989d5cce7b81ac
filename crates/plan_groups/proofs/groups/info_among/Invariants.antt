-- Those so far are other groups.
use Rattle.std.proofs.Common.{◌≡◌, drop}
use Rattle.plan_ir.specs.store_model.Says.{info_in}
use Rattle.plan_groups.proofs.groups.info_among.Given as goal

abbrev pub invariant-groups : goal.invariant-groups
invariant-groups l = info_in (drop l.group-index l.groups) ≡ info_in l.groups
