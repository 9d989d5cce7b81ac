use Rattle.sound_states.proofs.Steps.{steps_sound}
use Rattle.sound_states.proofs.laws.steps_keep_sound.Goals as goal

pub returns : goal.returns
returns c = steps_sound
