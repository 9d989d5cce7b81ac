use Rattle.sound_records.proofs.Sounds.{entries_sound}
use Rattle.sound_records.proofs.laws.entries_keep_sound.Goals as goal

pub returns : goal.returns
returns c = entries_sound
