use Rattle.sound_records.proofs.Saying.{payloads_sound}
use Rattle.sound_records.proofs.laws.payloads_are_sound.Goals as goal

pub returns : goal.returns
returns g c = payloads_sound
