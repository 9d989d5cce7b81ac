-- Nothing is kept.
use Rattle.plan_build.proofs.KeptSteps.{none_some}
use Rattle.plan_build.proofs.kept.Kept.new.Goals as goal

pub returns : goal.returns
returns c = λ defs. record {
  ids_right = λ n ids e. none_some ids _ (search) e;
  known_right = λ n known e. none_some known _ (search) e;
}
