-- What stands behind guards and what is left are the whole, and have its keys.
use Rattle.std.proofs.Common.{◌≡◌, ◌++◌, map}
use Rattle.std.specs.List.{AllByRecursion}
use Rattle.plan_ir.specs.Reader.{reader_append}
use Rattle.plan_order.proofs.single.each_guarded.Given as goal
use Rattle.plan_order.specs.Singles.{IsKeyed, guard_each, step_in, steps_in}

abbrev pub invariant-singles : goal.invariant-singles
invariant-singles l = record {
  steps : reader_append (steps_in l.behind.items) (guard_each l.guard (map step_in l.single-iterator.rest.items)) ≡ guard_each l.guard (map step_in l.fn.singles.items);
  keyed : AllByRecursion IsKeyed l.fn.singles.items → AllByRecursion IsKeyed (l.behind.items ++ l.single-iterator.rest.items);
}
