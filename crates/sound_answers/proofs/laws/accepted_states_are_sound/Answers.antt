use Rattle.sound_answers.proofs.Accepted.{states_sound}
use Rattle.sound_answers.proofs.laws.accepted_states_are_sound.Goals as goal

pub returns : goal.returns
returns c = states_sound
