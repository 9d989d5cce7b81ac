use Rattle.sound_states.proofs.NamedSteps.{steps_named}
use Rattle.sound_states.proofs.laws.steps_keep_named.Goals as goal

pub returns : goal.returns
returns c = steps_named
