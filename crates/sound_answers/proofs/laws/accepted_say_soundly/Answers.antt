use Rattle.sound_answers.proofs.Accepted.{say_soundly}
use Rattle.sound_answers.proofs.laws.accepted_say_soundly.Goals as goal

pub returns : goal.returns
returns c = say_soundly
