-- What is measured, with the spreads that are still to be followed.
use Rattle.std.specs.Prelude.{ℕ, ◌+◌, List, [], ◌∷◌, Some}
use Rattle.plan_ir.specs.schema_tables.Types.{Defs}
use Rattle.plan_expand.specs.Extents.{both, no_extent}
use Rattle.plan_expand.specs.Making.{Find}
use Rattle.plan_expand.specs.Measuring.{total, steps}
use Rattle.plan_expand.specs.SizesView.{sizes_of}
use Rattle.plan_expand.specs.declared.extent.Extent.{Extent}
use Rattle.plan_expand.specs.declared.measure.Pending.{Pending}
use Rattle.plan_expand.specs.declared.measure.Progress.{Progress}

abbrev pub pending_total : Defs → Find → Pending → Extent
pending_total defs find p = total p.spreads defs find (sizes_of p.scope) p.level (Some p.fragment.now.on.now) p.fragment.now.selections.now

abbrev pub all_total : Defs → Find → List Pending → Extent
all_total defs find [] = no_extent
all_total defs find (p ∷ ps) = both (pending_total defs find p) (all_total defs find ps)

-- what there is when all spreads are followed
abbrev pub whole_total : Defs → Find → Progress → Extent
whole_total defs find p = both p.extent (all_total defs find p.pending.items)

abbrev pub pending_steps : Find → Pending → ℕ
pending_steps find p = 1 + steps p.spreads find p.fragment.now.selections.now

abbrev pub all_steps : Find → List Pending → ℕ
all_steps find [] = 0
all_steps find (p ∷ ps) = pending_steps find p + all_steps find ps
