-- Steps are put one behind another.
use Rattle.std.proofs.Common.{◌≡◌, [], sym, ◌∙◌}
use Rattle.plan_order.proofs.SinglesSteps.{none_left, plan_next, plan_whole}
use Rattle.plan_order.proofs.single.plan_of.Goals as goal
use Rattle.plan_order.specs.Singles.{steps_in}

pub singles-preserved : goal.singles-preserved
singles-preserved c =
    plan_next c.singles.steps c.push.new.self c.in-Some.single c.singles.single-iterator.rest.items c.next.new.self.rest.items (steps_in c.args.singles.items)
    c.in-Some.ensures.steps.0 c.in_ok-push.ensures.ok c.singles.invariant

pub returns : goal.returns
returns c =
    let left = c.singles.single-iterator.rest in
    let gone : left.items ≡ [] = none_left left.items (sym left.ok.0 ∙ c.in-None.ensures.steps.0) in
    c.in_ok-steps.ensures ∙ plan_whole c.singles.steps (steps_in c.args.singles.items) left.items gone c.singles.invariant
