use Rattle.std.proofs.Common.{◌≡◌, true, false, not, codes, length, option_map, ap, sym, ◌∙◌}
use Rattle.event_script.specs.Seen.{answer_seen}
use Rattle.line_engine.proofs.QuietLaws.{quiet}
use Rattle.line_engine.proofs.StandingLaws.{whether_layer}
use Rattle.line_engine.proofs.StepLaws.{is_entry, is_refused, on_refusal, on_step, same_step, unless-false, unless-true}
use Rattle.line_engine.proofs.WorkLaws.{event_changes}
use Rattle.line_engine.proofs.engine.LineEngine.finish.Goals as goal
use Rattle.line_engine.specs.Kept.{Kept}
use Rattle.relay_machine.specs.Machine.{State, Step, accept, confirm, drop_layer, is_layer, noticed, refuse, result_of, step_finish}
use Rattle.relay_machine.specs.Printed.{event_line}
use Rattle.relay_machine.specs.Refusals.{unknown_layer}
use Rattle.plan_ir.specs.store_model.Events as events
use Rattle.plan_ir.specs.store_model.declared.entry.Entry.{Entry}

pub returns-then-not-is_live-clause-step : goal.returns-then-not-is_live-clause-step
returns-then-not-is_live-clause-step g c =
    let k : Kept = c.args.self.now in
    let n = c.args.n in
    let name = c.args.layer.now in
    let told = c.as_str-then-not-is_live.result.now in
    on_refusal c.refuse.result k n (unknown_layer told) (λ p s. noticed p n (length s.watches) (step_finish p s n name (option_map answer_seen c.args.answer.now) c.args.commands)) c.refuse.ensures (λ p s stands.
    let live : is_layer s.layers name ≡ false = whether_layer k p s stands c.self.inside.layers.live c.as_str.result.now name c.is_live.result (ap (λ (x : Kept). x.layers.live) c.self.view_is) c.as_str.ensures c.is_live.ensures ∙ c.if-not-is_live.true in
    ap (noticed p n (length s.watches))
    (unless-true s n (not (is_layer s.layers name)) (unknown_layer name) _ (ap not live) ∙ ap (λ t. refuse s n (unknown_layer t)) (sym c.as_str-then-not-is_live.ensures)))

pub returns-in-Entry-clause-step : goal.returns-in-Entry-clause-step
returns-in-Entry-clause-step g c =
    let k : Kept = c.args.self.now in
    let n = c.args.n in
    let name = c.args.layer.now in
    let line = event_line (codes "finish") n in
    let answer = option_map answer_seen c.args.answer.now in
    on_step c.replace.result k c.replace.new.self (λ p s. noticed p n (length s.watches) (accept line (confirm c.in-Entry.entry (drop_layer name s))))
    (λ p s. noticed p n (length s.watches) (step_finish p s n name answer c.args.commands)) c.replace.ensures.step (λ p s stands.
    let live : is_layer s.layers name ≡ true = whether_layer k p s stands c.self.inside.layers.live c.as_str.result.now name c.is_live.result (ap (λ (x : Kept). x.layers.live) c.self.view_is) c.as_str.ensures c.is_live.ensures ∙ c.if-not-is_live.false in
    let take : State → Entry → Step = λ s e. accept line (confirm e (drop_layer name s)) in
    ap (noticed p n (length s.watches))
    (unless-false s n (not (is_layer s.layers name)) (unknown_layer name) (result_of p s n answer c.args.commands (λ step. step) (take s)) (ap not live)
    ∙ is_entry k (λ p s take. result_of p s n answer c.args.commands (λ step. step) take) c.in_ok-entry.field-0 c.in_ok-entry.ensures take c.in-Entry.entry c.in-Entry.is p s stands))

pub returns-in-Refused-clause-step : goal.returns-in-Refused-clause-step
returns-in-Refused-clause-step g c = λ p s stands.
    let k : Kept = c.args.self.now in
    let n = c.args.n in
    let name = c.args.layer.now in
    let line = event_line (codes "finish") n in
    let answer = option_map answer_seen c.args.answer.now in
    let live : is_layer s.layers name ≡ true = whether_layer k p s stands c.self.inside.layers.live c.as_str.result.now name c.is_live.result (ap (λ (x : Kept). x.layers.live) c.self.view_is) c.as_str.ensures c.is_live.ensures ∙ c.if-not-is_live.false in
    let take : State → Entry → Step = λ s e. accept line (confirm e (drop_layer name s)) in
    quiet k p n (length s.watches) (step_finish p s n name answer c.args.commands) c.in-Refused.lines
    (same_step k p (result_of p s n answer c.args.commands (λ step. step) (take s)) (step_finish p s n name answer c.args.commands) c.in-Refused.lines
    (unless-false s n (not (is_layer s.layers name)) (unknown_layer name) (result_of p s n answer c.args.commands (λ step. step) (take s)) (ap not live))
    (is_refused k (λ p s take. result_of p s n answer c.args.commands (λ step. step) take) c.in_ok-entry.field-0 c.in_ok-entry.ensures take c.in-Refused.lines c.in-Refused.is p s stands))

pub returns-in-Entry-clause-looks : goal.returns-in-Entry-clause-looks
returns-in-Entry-clause-looks g c = λ p s stands.
    let k : Kept = c.args.self.now in
    let n = c.args.n in
    let name = c.args.layer.now in
    let e = c.in-Entry.entry in
    let line = event_line (codes "finish") n in
    let answer = option_map answer_seen c.args.answer.now in
    let live : is_layer s.layers name ≡ true = whether_layer k p s stands c.self.inside.layers.live c.as_str.result.now name c.is_live.result (ap (λ (x : Kept). x.layers.live) c.self.view_is) c.as_str.ensures c.is_live.ensures ∙ c.if-not-is_live.false in
    let take : State → Entry → Step = λ s e. accept line (confirm e (drop_layer name s)) in
    event_changes p k s (events.finish name answer c.args.commands) (step_finish p s n name answer c.args.commands) line (confirm e (drop_layer name s))
    (unless-false s n (not (is_layer s.layers name)) (unknown_layer name) (result_of p s n answer c.args.commands (λ step. step) (take s)) (ap not live)
    ∙ is_entry k (λ p s take. result_of p s n answer c.args.commands (λ step. step) take) c.in_ok-entry.field-0 c.in_ok-entry.ensures take e c.in-Entry.is p s stands)
    (g.S.Count.Steps.looks c.args.steps.now) (g.S.Count.Steps.looks c.replace.new.steps) (c.replace.ensures.looks p s stands)
