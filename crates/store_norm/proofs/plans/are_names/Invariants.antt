-- Whether all are Names is whether those that are left are.
use Rattle.std.proofs.Common.{◌≡◌, drop}
use Rattle.plan_ir.specs.NormalMeaning as meaning
use Rattle.store_norm.proofs.plans.are_names.Given as goal

abbrev pub invariant-texts : goal.invariant-texts
invariant-texts l = meaning.are_names l.texts ≡ meaning.are_names (drop l.text-index l.text-items)
