-- No cell tells of a field.
use Rattle.doc_merge.specs.CellView.{cells_of, cells_under}
use Rattle.doc_merge.proofs.OneOutLaws.{none_told}
use Rattle.doc_merge.proofs.others.Others.new.Goals as goal

pub returns : goal.returns
returns c = none_told (cells_under c.new-4.result) (cells_of c.new-3.result) (cells_of c.new-2.result) (cells_of c.new.result) c.new-4.ensures c.new-3.ensures c.new-2.ensures c.new.ensures
