-- What is put together and what is left are the whole.
use Rattle.std.proofs.Common.{◌≡◌}
use Rattle.plan_ir.specs.Reader.{reader_append}
use Rattle.plan_order.proofs.single.plan_of.Given as goal
use Rattle.plan_order.specs.Singles.{steps_in}

abbrev pub invariant-singles : goal.invariant-singles
invariant-singles l = reader_append l.steps (steps_in l.single-iterator.rest.items) ≡ steps_in l.fn.singles.items
