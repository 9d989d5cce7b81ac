-- None so far is another object type.
use Rattle.std.proofs.Common.{◌≡◌, not, map, drop}
use Rattle.std.specs.Prelude.{option_copied}
use Rattle.std.specs.List.{list_any}
use Rattle.doc_merge.specs.Merging.{meet}
use Rattle.doc_merge.specs.RowView.{parent_of}
use Rattle.doc_merge.proofs.pattern.has_two_objects.Given as goal

abbrev pub invariant-rows : goal.invariant-rows
invariant-rows l =
    list_any (λ p. not (meet (option_copied l.first) p)) (map parent_of (drop l.row-index l.group)) ≡ list_any (λ p. not (meet (option_copied l.first) p)) (map parent_of l.group)
