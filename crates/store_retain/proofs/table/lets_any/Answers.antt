-- Whether the first type is let is whether the conditions hold.
use Rattle.std.proofs.Common.{◌≡◌, ◌&&◌}
use Rattle.std.proofs.lemmas.Result.{IfOk-weaker}
use Rattle.plan_ir.specs.NormalMeaning.{guard_passes as passes, type_passes}
use Rattle.store_retain.proofs.CommonSteps.{lets_is, some_passes}
use Rattle.store_retain.proofs.table.lets_any.Goals as goal

pub returns-in-len1-up : goal.returns-in-len1-up
returns-in-len1-up c = λ T.
    IfOk-weaker c.guard_passes.result (λ lets. lets ≡ passes c.args.env.now.values c.as_str.result.now c.args.guard.now)
    (λ lets. passes c.args.env.now.values T c.args.guard.now ≡ (type_passes c.args.guard.now.types T && lets))
    (λ lets e. lets_is c.args.env.now.values c.args.guard.now c.as_str.result.now T lets e
    (some_passes c.args.guard.now.types c.in-Some.types c.as_slice.result.now _ c.first-item.result c.as_str.result.now c.in-Some.is c.as_slice.ensures c.in-len1-up.len_at_least c.first-item.is c.as_str.ensures))
    c.guard_passes.ensures
