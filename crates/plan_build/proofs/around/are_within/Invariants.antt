-- What is left tells it.
use Rattle.std.proofs.Common.{◌≡◌, drop}
use Rattle.plan_build.specs.Steps.{are_within}
use Rattle.plan_build.proofs.around.are_within.Given as goal

abbrev pub invariant-types : goal.invariant-types
invariant-types l = are_within l.ids (drop l.name-index l.name-items) ≡ are_within l.ids l.types
