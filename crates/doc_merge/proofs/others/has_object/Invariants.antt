-- None so far is an object type.
use Rattle.std.proofs.Common.{◌≡◌, map, drop}
use Rattle.std.specs.Prelude.{option_copied}
use Rattle.doc_merge.specs.Cells.{has_object}
use Rattle.doc_merge.proofs.others.has_object.Given as goal

abbrev pub invariant-levels : goal.invariant-levels
invariant-levels l = has_object (map option_copied (drop l.parent-index l.pattern)) ≡ has_object (map option_copied l.pattern)
