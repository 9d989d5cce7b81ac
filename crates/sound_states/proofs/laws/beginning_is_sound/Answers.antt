use Rattle.sound_states.proofs.Steps.{beginning_sound}
use Rattle.sound_states.proofs.laws.beginning_is_sound.Goals as goal

pub returns : goal.returns
returns c = beginning_sound
