use Rattle.std.proofs.Common.{◌≡◌, ◌==◌, true, false, Bool, codes, length, option_map, ap, sym, ◌∙◌}
use Rattle.event_script.specs.Seen.{answer_seen}
use Rattle.line_engine.proofs.QuietLaws.{quiet}
use Rattle.line_engine.proofs.StandingLaws.{layers_count, whether_layer}
use Rattle.line_engine.proofs.StepLaws.{is_entry, is_refused, on_refusal, on_step, same_step, unless-false, unless-true}
use Rattle.line_engine.proofs.WorkLaws.{event_changes}
use Rattle.line_engine.proofs.engine.LineEngine.begin.Goals as goal
use Rattle.line_engine.specs.Kept.{Kept}
use Rattle.relay_machine.specs.Machine.{State, Step, accept, is_layer, noticed, refuse, result_of, step_begin, unless, with_layer}
use Rattle.relay_machine.specs.Printed.{event_line}
use Rattle.relay_machine.specs.Refusals.{layer_taken, layers, most, too_many}
use Rattle.plan_ir.specs.store_model.Events as events
use Rattle.plan_ir.specs.store_model.declared.entry.Entry.{Entry}

pub returns-then-is_live-clause-step : goal.returns-then-is_live-clause-step
returns-then-is_live-clause-step g c =
    let k : Kept = c.args.self.now in
    let n = c.args.n in
    let name = c.args.layer in
    let told = c.as_str-then-is_live.result.now in
    on_refusal c.refuse.result k n (layer_taken told) (λ p s. noticed p n (length s.watches) (step_begin p s n name (option_map answer_seen c.args.answer.now) c.args.commands)) c.refuse.ensures (λ p s stands.
    let live : is_layer s.layers name ≡ true = whether_layer k p s stands c.self.inside.layers.live c.as_str.result.now name c.is_live.result (ap (λ (x : Kept). x.layers.live) c.self.view_is) c.as_str.ensures c.is_live.ensures ∙ c.if-is_live.true in
    ap (noticed p n (length s.watches))
    (unless-true s n (is_layer s.layers name) (layer_taken name) _ live ∙ ap (λ t. refuse s n (layer_taken t)) (sym c.as_str-then-is_live.ensures)))

pub returns-in-Entry-clause-step : goal.returns-in-Entry-clause-step
returns-in-Entry-clause-step g c =
    let k : Kept = c.args.self.now in
    let n = c.args.n in
    let name = c.args.layer in
    let line = event_line (codes "begin") n in
    let full : Bool = c.count-is_full.result == most layers in
    let answer = option_map answer_seen c.args.answer.now in
    on_step c.start.result k c.start.new.self (λ p s. noticed p n (length s.watches) (accept line (with_layer name c.in-Entry.entry s)))
    (λ p s. noticed p n (length s.watches) (step_begin p s n name answer c.args.commands)) c.start.ensures.step (λ p s stands.
    let live : is_layer s.layers name ≡ false = whether_layer k p s stands c.self.inside.layers.live c.as_str.result.now name c.is_live.result (ap (λ (x : Kept). x.layers.live) c.self.view_is) c.as_str.ensures c.is_live.ensures ∙ c.if-is_live.false in
    let count : length s.layers ≡ c.count-is_full.result = layers_count k p s stands c.self.inside.layers.live c.count-is_full.result (ap (λ (x : Kept). x.layers.live) c.self.view_is) c.count-is_full.ensures in
    let take : State → Entry → Step = λ s e. accept line (with_layer name e s) in
    ap (noticed p n (length s.watches))
    (unless-false s n (is_layer s.layers name) (layer_taken name) (result_of p s n answer c.args.commands (λ step. unless s n (length s.layers == most layers) (too_many layers) step) (take s)) live
    ∙ ap (λ m. result_of p s n answer c.args.commands (λ step. unless s n (m == most layers) (too_many layers) step) (take s)) count
    ∙ is_entry k (λ p s take. result_of p s n answer c.args.commands (λ step. unless s n full (too_many layers) step) take) c.in_ok-entry.field-0 c.in_ok-entry.ensures
    take c.in-Entry.entry c.in-Entry.is p s stands))

pub returns-in-Refused-clause-step : goal.returns-in-Refused-clause-step
returns-in-Refused-clause-step g c = λ p s stands.
    let k : Kept = c.args.self.now in
    let n = c.args.n in
    let name = c.args.layer in
    let line = event_line (codes "begin") n in
    let full : Bool = c.count-is_full.result == most layers in
    let answer = option_map answer_seen c.args.answer.now in
    let live : is_layer s.layers name ≡ false = whether_layer k p s stands c.self.inside.layers.live c.as_str.result.now name c.is_live.result (ap (λ (x : Kept). x.layers.live) c.self.view_is) c.as_str.ensures c.is_live.ensures ∙ c.if-is_live.false in
    let count : length s.layers ≡ c.count-is_full.result = layers_count k p s stands c.self.inside.layers.live c.count-is_full.result (ap (λ (x : Kept). x.layers.live) c.self.view_is) c.count-is_full.ensures in
    let take : State → Entry → Step = λ s e. accept line (with_layer name e s) in
    let whole : Step = result_of p s n answer c.args.commands (λ step. unless s n full (too_many layers) step) (take s) in
    quiet k p n (length s.watches) (step_begin p s n name answer c.args.commands) c.in-Refused.lines
    (same_step k p whole (step_begin p s n name answer c.args.commands) c.in-Refused.lines
    (unless-false s n (is_layer s.layers name) (layer_taken name) (result_of p s n answer c.args.commands (λ step. unless s n (length s.layers == most layers) (too_many layers) step) (take s)) live
    ∙ ap (λ m. result_of p s n answer c.args.commands (λ step. unless s n (m == most layers) (too_many layers) step) (take s)) count)
    (is_refused k (λ p s take. result_of p s n answer c.args.commands (λ step. unless s n full (too_many layers) step) take) c.in_ok-entry.field-0 c.in_ok-entry.ensures
    take c.in-Refused.lines c.in-Refused.is p s stands))

pub returns-in-Entry-clause-looks : goal.returns-in-Entry-clause-looks
returns-in-Entry-clause-looks g c = λ p s stands.
    let k : Kept = c.args.self.now in
    let n = c.args.n in
    let name = c.args.layer in
    let e = c.in-Entry.entry in
    let line = event_line (codes "begin") n in
    let full : Bool = c.count-is_full.result == most layers in
    let answer = option_map answer_seen c.args.answer.now in
    let live : is_layer s.layers name ≡ false = whether_layer k p s stands c.self.inside.layers.live c.as_str.result.now name c.is_live.result (ap (λ (x : Kept). x.layers.live) c.self.view_is) c.as_str.ensures c.is_live.ensures ∙ c.if-is_live.false in
    let count : length s.layers ≡ c.count-is_full.result = layers_count k p s stands c.self.inside.layers.live c.count-is_full.result (ap (λ (x : Kept). x.layers.live) c.self.view_is) c.count-is_full.ensures in
    let take : State → Entry → Step = λ s e. accept line (with_layer name e s) in
    event_changes p k s (events.begin name answer c.args.commands) (step_begin p s n name answer c.args.commands) line (with_layer name e s)
    (unless-false s n (is_layer s.layers name) (layer_taken name) (result_of p s n answer c.args.commands (λ step. unless s n (length s.layers == most layers) (too_many layers) step) (take s)) live
    ∙ ap (λ m. result_of p s n answer c.args.commands (λ step. unless s n (m == most layers) (too_many layers) step) (take s)) count
    ∙ is_entry k (λ p s take. result_of p s n answer c.args.commands (λ step. unless s n full (too_many layers) step) take) c.in_ok-entry.field-0 c.in_ok-entry.ensures
    take e c.in-Entry.is p s stands)
    (g.S.Count.Steps.looks c.args.steps.now) (g.S.Count.Steps.looks c.start.new.steps) (c.start.ensures.looks p s stands)
