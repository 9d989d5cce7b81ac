use Rattle.image_marks.proofs.FlatExact.{flat_is_read_back}
use Rattle.image_marks.proofs.laws.flat_is_read_back.Goals as goal

pub returns : goal.returns
returns c = flat_is_read_back
