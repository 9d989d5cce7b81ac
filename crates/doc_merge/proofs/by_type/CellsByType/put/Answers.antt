-- The cells of a type are put back with one field more.
use Rattle.std.proofs.Common.{List, ap, ◌∙◌}
use Rattle.std.proofs.lemmas.Map.Text.{btree_map_updates_str}
use Rattle.doc_merge.proofs.MapSteps.{put_found}
use Rattle.doc_merge.specs.Cells.{Cell, put}
use Rattle.doc_merge.specs.CellView.{cells_of, cells_under}
use Rattle.doc_merge.specs.RowView.{mark_of}
use Rattle.doc_merge.proofs.by_type.CellsByType.put.Goals as goal

pub returns : goal.returns
returns c = λ n.
    put_found cells_of (λ (cs : List Cell). put cs (mark_of c.args.row.now)) (cells_under c.args.self.now) c.args.object.now n c.put.new.self _ _
    (c.in_ok-put.ensures ∙ ap (λ (cs : List Cell). put cs (mark_of c.args.row.now)) c.take-cells.ensures.taken) (c.take-cells.ensures.left n)
    (btree_map_updates_str c.args.object.now c.take-cells.new.self.by_type c.insert.new.self _ c.in_ok-insert.ensures.updates n)
