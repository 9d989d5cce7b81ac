use Rattle.sound_states.proofs.Entries.{records_sound}
use Rattle.sound_states.proofs.laws.records_are_sound.Goals as goal

pub returns : goal.returns
returns c = records_sound
