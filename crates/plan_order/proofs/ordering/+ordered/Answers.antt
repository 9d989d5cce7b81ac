-- Steps are taken apart one by one, and put in order; a plan is found where there is an order.
use Rattle.std.proofs.Common.{◌≡◌, ◌≤◌, true, false, IfSome, is_some, arith, rules, sym, ap, subst, ◌∙◌}
use Rattle.plan_ir.proofs.StepDepths.{step_within}
use Rattle.plan_ir.specs.Reader.{depth}
use Rattle.plan_ir.specs.ReaderView.{step_of}
use Rattle.plan_order.proofs.FoundOrders.{order_kept, order_lost, order_made}
use Rattle.plan_order.proofs.SinglesSteps.{singles_guarded, singles_next, singles_ordered}
use Rattle.plan_order.proofs.StepKeys.{has_below_next, has_below_not}
use Rattle.plan_order.proofs.ordering.+ordered.Goals as goal
use Rattle.plan_order.specs.HasOrder.{has_order, has_order_below}
use Rattle.plan_order.specs.Singles.{AreSingles}

-- ---- one plan

pub ordered-returns-then-not-branch-clause-found : goal.ordered-returns-then-not-branch-clause-found
ordered-returns-then-not-branch-clause-found t c =
    let none : has_order c.args.plan.now.steps ≡ false = sym c.in_ok-has_order.ensures ∙ c.if-not-branch.true in
    order_lost c.args.plan.now.steps none

pub ordered-returns-clause-copy : goal.ordered-returns-clause-copy
ordered-returns-clause-copy t c =
    let plan = c.args.plan.now.steps in
    let given = c.in-Some.singles.items in
    let here : has_order plan ≡ true = sym c.in_ok-has_order.ensures ∙ c.if-not-branch.false in
    let are : AreSingles plan given = subst (λ o. IfSome o (λ s. AreSingles plan s.items)) c.in-Some.is c.in_ok-singles.ensures.singles in
    singles_ordered plan c.in_ok-copy.copy.steps given c.in_ok-sorted.sorted.items are c.in_ok-sorted.ensures.same c.in_ok-copy.ensures
    (order_made plan c.in_ok-copy.copy.steps given c.in_ok-sorted.sorted.items are c.in_ok-sorted.ensures.same c.in_ok-sorted.ensures.order c.in_ok-copy.ensures here)

pub ordered-returns-clause-found : goal.ordered-returns-clause-found
ordered-returns-clause-found t c =
    let plan = c.args.plan.now.steps in
    let here : has_order plan ≡ true = sym c.in_ok-has_order.ensures ∙ c.if-not-branch.false in
    let below : has_order_below plan ≡ true = sym (subst (λ o. is_some o ≡ has_order_below plan) c.in-Some.is c.in_ok-singles.ensures.found) in
    order_kept plan below here

-- ---- steps one after another

pub singles_of-apart-requires : goal.singles_of-apart-requires
singles_of-apart-requires t c =
    let less : depth (step_of c.step-item.result) ≤ depth c.args.steps.now =
    step_within c.as_slice-step-items.result.now c.steps.step-index c.step-item.result c.args.steps.now (omega arith) c.step-item.is c.as_slice-step-items.ensures in
    (omega arith, tt)

pub singles_of-steps-preserved : goal.singles_of-steps-preserved
singles_of-steps-preserved t c = record {
  singles = singles_next c.as_slice-step-items.result.now c.steps.step-index c.step-item.result c.steps.singles.items c.in-Some.more.items c.append.new.self.items (omega arith) c.step-item.is
      c.in_ok-append.ensures.items
      (subst (λ o. IfSome o (λ s. AreSingles (step_of c.step-item.result) s.items)) c.in-Some.is c.in_ok-more.ensures.singles)
      c.steps.invariant.singles;
  below = has_below_next c.as_slice-step-items.result.now c.steps.step-index c.step-item.result (omega arith) c.step-item.is
      (sym (subst (λ o. is_some o ≡ has_order_below (step_of c.step-item.result)) c.in-Some.is c.in_ok-more.ensures.found))
      c.steps.invariant.below;
}

pub singles_of-returns-in_default-clause-found : goal.singles_of-returns-in_default-clause-found
singles_of-returns-in_default-clause-found t c =
    let here : has_order_below (step_of c.step-item.result) ≡ false = search rules in
    sym (ap has_order_below (sym c.as_slice-step-items.ensures) ∙ has_below_not c.as_slice-step-items.result.now c.steps.step-index c.step-item.result (omega arith) c.step-item.is here)

-- ---- one step

pub apart-returns-in_ok-each_guarded-in-Guarded-clause-singles : goal.apart-returns-in_ok-each_guarded-in-Guarded-clause-singles
apart-returns-in_ok-each_guarded-in-Guarded-clause-singles t c =
    let guard = c.in-Guarded.guard in
    let child = c.in-Guarded.child.steps in
    let inner = c.in-Some-2.singles.items in
    let behind = c.in_ok-each_guarded-in-Guarded.field-0.items in
    let are : AreSingles child inner = subst (λ o. IfSome o (λ s. AreSingles child s.items)) c.in-Some-2.is c.in_ok-singles-in-Guarded.ensures.singles in
    subst (λ x. AreSingles (step_of x) behind) (sym c.in-Guarded.is)
    (singles_guarded guard child inner behind are c.in_ok-each_guarded-in-Guarded.ensures.steps (c.in_ok-each_guarded-in-Guarded.ensures.keyed are.keyed))
