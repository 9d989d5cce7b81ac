-- The plans that were copied.
use Rattle.std.proofs.Common.{◌≡◌, map, take}
use Rattle.plan_groups.specs.FieldView.{plan_at}
use Rattle.store_norm.proofs.cache.GroupCache.new.Given as goal

abbrev pub invariant-plans : goal.invariant-plans
invariant-plans l = map plan_at l.parts.items ≡ map plan_at (take l.plan-index l.plans)
