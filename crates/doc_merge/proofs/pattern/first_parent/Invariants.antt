-- None so far has one.
use Rattle.std.proofs.Common.{◌≡◌, map, drop}
use Rattle.doc_merge.specs.Joined.{first_parent}
use Rattle.doc_merge.specs.RowView.{parent_of}
use Rattle.doc_merge.proofs.pattern.first_parent.Given as goal

abbrev pub invariant-rows : goal.invariant-rows
invariant-rows l = first_parent (map parent_of (drop l.row-index l.group)) ≡ first_parent (map parent_of l.group)
