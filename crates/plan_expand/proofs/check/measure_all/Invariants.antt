-- What is measured and what still waits are the whole; each spread that is followed leaves fewer.
use Rattle.std.proofs.Common.{◌≡◌}
use Rattle.std.specs.Prelude.{option_copied}
use Rattle.plan_expand.specs.Extents.{both, values_extent}
use Rattle.plan_expand.specs.Measuring.{total}
use Rattle.plan_expand.specs.ProgressView.{all_steps, whole_total}
use Rattle.plan_expand.specs.ReadyView.{find_in}
use Rattle.plan_expand.specs.Sizes.{own_sizes}
use Rattle.plan_expand.proofs.check.measure_all.Given as goal

abbrev pub invariant-pending : goal.invariant-pending
invariant-pending l =
    whole_total l.adding.schema.now (find_in l.fragments) l.progress
    ≡ both (values_extent l.fn.values) (total l.spreads l.adding.schema.now (find_in l.fragments) own_sizes 1 (option_copied l.around) l.selections)

abbrev pub decreases-pending : goal.decreases-pending
decreases-pending l = all_steps (find_in l.fragments) l.progress.pending.items
