-- No guard stands right in a guard, and the keys have an order.
use Rattle.std.proofs.Common.{◌≡◌, true, ◌&&◌, ap, sym, ◌∙◌}
use Rattle.std.proofs.lemmas.Result.{IfOk-weaker}
use Rattle.plan_order.proofs.keys.has_order.Goals as goal
use Rattle.plan_order.specs.HasOrder.{has_order, has_single_guards, keys_have_order}

pub returns-then-not-has_single_guards : goal.returns-then-not-has_single_guards
returns-then-not-has_single_guards c = sym (ap (λ b. b && keys_have_order c.args.steps.now) (sym c.has_single_guards.ensures ∙ c.if-not-has_single_guards.true))

pub returns : goal.returns
returns c =
    let single : has_single_guards c.args.steps.now ≡ true = sym c.has_single_guards.ensures ∙ c.if-not-has_single_guards.false in
    IfOk-weaker c.keys_have_order.result (λ yes. yes ≡ keys_have_order c.args.steps.now) (λ yes. yes ≡ has_order c.args.steps.now)
    (λ yes h. h ∙ sym (ap (λ b. b && keys_have_order c.args.steps.now) single)) c.keys_have_order.ensures
