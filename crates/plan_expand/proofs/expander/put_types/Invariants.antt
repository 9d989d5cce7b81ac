-- What is kept is right.
use Rattle.std.proofs.Common.{◌≡◌}
use Rattle.plan_expand.specs.Adding.{IsRight}
use Rattle.plan_expand.proofs.expander.put_types.Given as goal

abbrev pub invariant-sites : goal.invariant-sites
invariant-sites l = IsRight l.adding × (l.adding.schema.now ≡ l.initial.adding.schema.now)
