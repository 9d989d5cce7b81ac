use Rattle.sound_records.proofs.Sounds.{sweeps_sound}
use Rattle.sound_records.proofs.laws.sweeps_keep_sound.Goals as goal

pub returns : goal.returns
returns c = sweeps_sound
