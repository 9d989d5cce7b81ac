-- Steps are put behind guards one by one.
use Rattle.std.proofs.Common.{◌≡◌, [], map, refl, sym, ◌∙◌}
use Rattle.plan_order.proofs.SinglesSteps.{guard_next, guard_whole, keyed_next, keyed_whole, none_left}
use Rattle.plan_order.proofs.single.each_guarded.Goals as goal
use Rattle.plan_order.specs.Singles.{guard_each, step_in}

pub singles-preserved : goal.singles-preserved
singles-preserved c = record {
  steps = guard_next c.args.guard.now c.singles.behind.items c.in-Some.single _ c.singles.single-iterator.rest.items c.next.new.self.rest.items c.push.new.self.items (guard_each c.args.guard.now (map step_in c.args.singles.items))
      c.in-Some.ensures.steps.0 c.in_ok-push.ensures.items c.in_ok-step.ensures c.singles.invariant.steps;
  keyed = λ given.
      keyed_next c.args.guard.now c.singles.behind.items c.in-Some.single _ c.singles.single-iterator.rest.items c.next.new.self.rest.items c.push.new.self.items
      c.in-Some.ensures.steps.0 c.in_ok-push.ensures.items refl c.in_ok-step.ensures (c.singles.invariant.keyed given);
}

pub returns-clause-steps : goal.returns-clause-steps
returns-clause-steps c =
    let left = c.singles.single-iterator.rest in
    let gone : left.items ≡ [] = none_left left.items (sym left.ok.0 ∙ c.in-None.ensures.steps.0) in
    guard_whole c.args.guard.now c.singles.behind.items left.items (guard_each c.args.guard.now (map step_in c.args.singles.items)) gone c.singles.invariant.steps

pub returns-clause-keyed : goal.returns-clause-keyed
returns-clause-keyed c =
    let left = c.singles.single-iterator.rest in
    let gone : left.items ≡ [] = none_left left.items (sym left.ok.0 ∙ c.in-None.ensures.steps.0) in
    λ given. keyed_whole c.singles.behind.items left.items gone (c.singles.invariant.keyed given)
