-- The groups are made, and below them nothing yet.
use Rattle.std.proofs.Common.{map, ap, ◌∙◌}
use Rattle.plan_groups.specs.FieldView.{plan_at}
use Rattle.store_norm.proofs.CacheSteps.{right_made}
use Rattle.store_norm.proofs.caching.groups_of_type.Goals as goal
use Rattle.store_norm.specs.Caching.{caches}

pub returns-clause-right : goal.returns-clause-right
returns-clause-right c =
    right_made (map plan_at c.args.plans.now) (record { name = c.args.name; groups = c.in_ok-groups.groups; below = c.in_ok-below.below })
    c.in_ok-groups.ensures
    (c.in_ok-below.ensures ∙ ap caches c.as_slice.ensures)
