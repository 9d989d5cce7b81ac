-- A map of records, and what a change of it may cost.
use Rattle.std.specs.Prelude.{ℕ, ◌+◌, ◌*◌}
use Rattle.std.specs.Cmp.Lexicographic.{slice_cmp}
use Rattle.std.specs.Coded.{Coded, coded_list, coded_ℕ}
use Rattle.std.specs.FinMap as map
use Rattle.std.specs.Ordering.{nat_cmp}
use Rattle.store_record.specs.contracts.record.Slot as slot
use Rattle.store_record.specs.declared.record.Slot.{Slot}
use Rattle.store_tree.specs.Contents.{binary_digits}

-- A finite map from id to a deleted or a live record; an id that is not in it is absent.
abbrev pub Records : Type 0
Records = map.FinMap (slice_cmp nat_cmp) Slot

-- its code, which a model's value has
abbrev pub coded_records : Coded Records
coded_records = map.code (coded_list coded_ℕ) slot.the_row.coded

-- the most nodes that a change makes
abbrev pub most_nodes : Records → ℕ
most_nodes m = 8 * (2 * binary_digits (map.len m) + 1)
