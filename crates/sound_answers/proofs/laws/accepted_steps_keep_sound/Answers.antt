use Rattle.sound_answers.proofs.Accepted.{steps_sound}
use Rattle.sound_answers.proofs.laws.accepted_steps_keep_sound.Goals as goal

pub returns : goal.returns
returns c = steps_sound
