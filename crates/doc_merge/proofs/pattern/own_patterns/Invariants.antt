-- What is written and what is left are the whole.
use Rattle.std.proofs.Common.{◌≡◌, ◌++◌, map, drop}
use Rattle.doc_merge.specs.Joined.{own_pattern}
use Rattle.doc_merge.specs.RowView.{parent_of, pattern_items, pattern_of}
use Rattle.doc_merge.proofs.pattern.own_patterns.Given as goal

abbrev pub invariant-rows : goal.invariant-rows
invariant-rows l =
    map pattern_items l.patterns.items ++ map (λ r. own_pattern l.is_parted (pattern_of r) (parent_of r)) (drop l.row-index l.group)
    ≡ map (λ r. own_pattern l.is_parted (pattern_of r) (parent_of r)) l.group
