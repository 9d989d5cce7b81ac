use Rattle.sound_records.proofs.Giving.{lines_given}
use Rattle.sound_records.proofs.laws.lines_are_given.Goals as goal

pub returns : goal.returns
returns c = lines_given
