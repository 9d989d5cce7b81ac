-- What is made and what is left are the whole.
use Rattle.std.proofs.Common.{◌≡◌, ◌≤◌, ◌-◌, ◌++◌, map, drop, length}
use Rattle.plan_ir.specs.schema_tables.Types.{Defs}
use Rattle.doc_merge.specs.Joined.{with_patterns}
use Rattle.doc_merge.specs.RowView.{pattern_items, row_of}
use Rattle.doc_merge.proofs.pattern.with_patterns.Given as goal

abbrev pub invariant-rows : goal.invariant-rows
invariant-rows l =
    (l.at ≤ length l.patterns)
    × ((defs : Defs) → map (row_of defs) l.rows.items ++ with_patterns (map pattern_items (drop l.at l.patterns)) (map (row_of defs) (drop l.at l.group))
    ≡ with_patterns (map pattern_items l.patterns) (map (row_of defs) l.group))

abbrev pub decreases-rows : goal.decreases-rows
decreases-rows l = length l.patterns - l.at
