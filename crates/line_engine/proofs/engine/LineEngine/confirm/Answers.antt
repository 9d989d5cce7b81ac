use Rattle.std.proofs.Common.{length, option_map, ap}
use Rattle.event_script.specs.Seen.{answer_seen}
use Rattle.line_engine.proofs.QuietLaws.{stepped_quietly}
use Rattle.line_engine.proofs.StepLaws.{is_entry, is_refused, on_step}
use Rattle.line_engine.proofs.WorkLaws.{event_changes}
use Rattle.line_engine.proofs.engine.LineEngine.confirm.Goals as goal
use Rattle.line_engine.specs.Kept.{Kept}
use Rattle.relay_machine.specs.Machine.{accept, confirm, noticed, result_of}
use Rattle.relay_machine.specs.Printed.{event_line}
use Rattle.plan_ir.specs.store_model.Events as events

pub returns-in-Entry-clause-step : goal.returns-in-Entry-clause-step
returns-in-Entry-clause-step g c =
    let k : Kept = c.args.self.now in
    let n = c.args.n in
    let line = event_line c.args.event.now n in
    on_step c.commit.result k c.commit.new.self (λ p s. noticed p n (length s.watches) (accept line (confirm c.in-Entry.entry s)))
    (λ p s. noticed p n (length s.watches) (result_of p s n (option_map answer_seen c.args.answer.now) c.args.commands (λ step. step) (λ e. accept line (confirm e s)))) c.commit.ensures.step
    (λ p s stands. ap (noticed p n (length s.watches))
    (is_entry k (λ p s take. result_of p s n (option_map answer_seen c.args.answer.now) c.args.commands (λ step. step) take) c.in_ok-entry.field-0 c.in_ok-entry.ensures
    (λ s e. accept line (confirm e s)) c.in-Entry.entry c.in-Entry.is p s stands))

pub returns-in-Refused-clause-step : goal.returns-in-Refused-clause-step
returns-in-Refused-clause-step g c =
    let k : Kept = c.args.self.now in
    let n = c.args.n in
    let line = event_line c.args.event.now n in
    stepped_quietly k k n c.in-Refused.lines (λ p s. result_of p s n (option_map answer_seen c.args.answer.now) c.args.commands (λ step. step) (λ e. accept line (confirm e s)))
    (is_refused k (λ p s take. result_of p s n (option_map answer_seen c.args.answer.now) c.args.commands (λ step. step) take) c.in_ok-entry.field-0 c.in_ok-entry.ensures
    (λ s e. accept line (confirm e s)) c.in-Refused.lines c.in-Refused.is)

pub returns-in-Entry-clause-looks : goal.returns-in-Entry-clause-looks
returns-in-Entry-clause-looks g c = λ p s stands.
    let k : Kept = c.args.self.now in
    let n = c.args.n in
    let e = c.in-Entry.entry in
    let line = event_line c.args.event.now n in
    let answer = option_map answer_seen c.args.answer.now in
    event_changes p k s (events.update c.args.commands) (result_of p s n answer c.args.commands (λ step. step) (λ e. accept line (confirm e s))) line (confirm e s)
    (is_entry k (λ p s take. result_of p s n answer c.args.commands (λ step. step) take) c.in_ok-entry.field-0 c.in_ok-entry.ensures
    (λ s e. accept line (confirm e s)) e c.in-Entry.is p s stands)
    (g.S.Count.Steps.looks c.args.steps.now) (g.S.Count.Steps.looks c.commit.new.steps) (c.commit.ensures.looks p s stands)
