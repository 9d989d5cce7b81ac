-- Nothing is known.
use Rattle.plan_build.proofs.KeptSteps.{nothing_known}
use Rattle.plan_build.proofs.known.Known.new.Goals as goal

pub returns : goal.returns
returns c = λ defs of. nothing_known defs of _ (λ o. search) (λ n. search)
