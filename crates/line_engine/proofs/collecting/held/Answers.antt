use Rattle.std.proofs.Common.{◌≡◌, ◌||◌, ap, ◌∙◌}
use Rattle.plan_ir.specs.gql_plain.Order.{has_text}
use Rattle.plan_ir.specs.store_model.Entries.{all_named}
use Rattle.plan_ir.specs.store_model.Leads.{leads}
use Rattle.line_engine.proofs.IdLaws.{same_led}
use Rattle.line_engine.proofs.collecting.held.Goals as goal
use Rattle.store_layers.specs.Layered.{entries_of}
use Rattle.store_retain.specs.Kept.{all_held, is_kept}
use Rattle.store_retain.specs.Steps.{slots_of}

pub returns-clause-ids : goal.returns-clause-ids
returns-clause-ids g c = λ j.
    let m = c.args.layers.now.base in
    let hs = all_held c.args.retained.now in
    let named = c.in_ok-named.named in
    let all = all_named (entries_of c.args.layers.now.live) in
    let base : g.S.RecordSource.records c.base-base.result.now ≡ m = c.base-base.ensures in
    let reached : has_text c.in_ok-reached.reached j ≡ is_kept (slots_of m) hs j = c.in_ok-reached.ensures.ids j ∙ ap (λ x. is_kept (slots_of x) hs j) base in
    let led : has_text c.in_ok-led.led j ≡ has_text (leads m all) j
    = c.in_ok-led.ensures.ids j ∙ ap (λ x. has_text (leads x named) j) base ∙ same_led m named all (λ id. c.in_ok-named.ensures id) j in
    c.in_ok-ids.ensures j ∙ (λ i. reached i || led i)
