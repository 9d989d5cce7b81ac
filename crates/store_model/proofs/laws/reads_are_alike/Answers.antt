use Rattle.store_model.proofs.AlikeReads.{read_alike}
use Rattle.store_model.proofs.Widest.{alike_keeps}
use Rattle.store_model.proofs.laws.reads_are_alike.Goals as goal
use Rattle.store_model.specs.Alike.{Alike}

pub returns : goal.returns
returns c begin = λ collect gather typed owner m depth types fs gs id h. read_alike collect gather typed owner m (Alike collect gather) (alike_keeps collect gather) depth types fs gs id h
