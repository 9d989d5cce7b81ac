-- What is kept is right.
use Rattle.std.proofs.Common.{◌≡◌}
use Rattle.plan_expand.specs.Adding.{IsRight}
use Rattle.plan_expand.proofs.expander.adding_of.Given as goal

abbrev pub invariant-definitions : goal.invariant-definitions
invariant-definitions l = IsRight l.adding × (l.adding.schema.now ≡ l.schema)
