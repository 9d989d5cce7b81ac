-- The expansion of a fragment that meets the rules that it needs is suited.
use Rattle.plan_read.proofs.SuitedFragments.{fragments_that_meet_are_suited}
use Rattle.plan_read.proofs.laws.fragments_that_meet_are_suited.Goals as goal

pub returns : goal.returns
returns c = λ p f sound meets. fragments_that_meet_are_suited p f sound meets
