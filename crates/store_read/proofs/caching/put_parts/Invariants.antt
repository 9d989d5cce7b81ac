-- What is put so far.
use Rattle.std.proofs.Common.{◌≡◌, ◌++◌, map, take}
use Rattle.store_read.proofs.caching.put_parts.Given as goal
use Rattle.store_read.specs.FieldView.{part_at}

abbrev pub invariant-fields : goal.invariant-fields
invariant-fields l = map part_at l.parts.items ≡ map part_at l.initial.parts.items ++ map (λ f. part_at f.part) (take l.field-index l.fields)
