use Rattle.sound_records.proofs.Sounds.{nothing_sound}
use Rattle.sound_records.proofs.laws.no_records_are_sound.Goals as goal

pub returns : goal.returns
returns c = nothing_sound
