-- What the cells of the code stand for.
use Rattle.std.specs.Prelude.{Bool, List, [], map, Option, option_map, unwrap_or}
use Rattle.std.specs.BTreeMap.{get_by}
use Rattle.std.specs.Cmp.Lexicographic.{slice_cmp}
use Rattle.std.specs.Ordering.{nat_cmp}
use Rattle.plan_ir.specs.schema_tables.Types.{Text}
use Rattle.doc_merge.specs.Cells as spec
use Rattle.doc_merge.specs.Cells.{Mark, has_other_among, has_other_at}
use Rattle.doc_merge.specs.RowView.{pattern_of, signature_of}
use Rattle.doc_merge.specs.declared.by_type.CellsByType.{CellsByType}
use Rattle.doc_merge.specs.declared.cells.Cell.{Cell}
use Rattle.doc_merge.specs.declared.cells.Cells.{Cells}
use Rattle.doc_merge.specs.declared.others.Others.{Others}

abbrev pub cell_of : Cell → spec.Cell
cell_of c = record { pattern = pattern_of c.first; first = signature_of c.first.field; is_mixed = c.is_mixed }

abbrev pub cells_of : Cells → List spec.Cell
cells_of cs = map cell_of cs.cells.items

-- the cells under an object type
abbrev pub cells_under : CellsByType → Text → List spec.Cell
cells_under table n = unwrap_or (option_map cells_of (get_by (λ k. slice_cmp nat_cmp n k.now) table.by_type)) []

-- whether a field one level further out, with this at its innermost level, differs from one that was put
abbrev pub has_other_on : Others → Option Text → Mark → Bool
has_other_on others p m = has_other_at (cells_under others.by_type) (cells_of others.without) (cells_of others.all) p m

abbrev pub has_other_in : Others → Mark → Bool
has_other_in others m = has_other_among (cells_under others.by_type) (cells_of others.without) (cells_of others.all) (cells_of others.whole) m
