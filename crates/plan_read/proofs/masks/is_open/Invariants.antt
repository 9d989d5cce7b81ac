-- None so far is `@relay(mask: false)`.
use Rattle.std.proofs.Common.{◌≡◌, drop}
use Rattle.plan_build.specs.relay_model.Collection.{is_open}
use Rattle.plan_read.proofs.masks.is_open.Given as goal

abbrev pub invariant-directives : goal.invariant-directives
invariant-directives l = is_open (drop l.directive-index l.directive-items) ≡ is_open l.directives
