use Rattle.std.proofs.Common.{◌≡◌, [], ◌∷◌, drop}
use Rattle.store_record.specs.gql_plain.Shown.{plain_trees}
use Rattle.image_marks.specs.Flat as spec
use Rattle.image_marks.specs.Stack.{opened}
use Rattle.image_marks.proofs.flat.unflat.Given as goal

-- what is left makes of the stack what all marks make of the first
abbrev pub invariant-marks : goal.invariant-marks
invariant-marks l =
    spec.take_marks (plain_trees (drop l.mark-index l.fn.marks)) (opened l.stack.items) ≡ spec.take_marks (plain_trees l.fn.marks) (spec.in_list [] ∷ [])
