use Rattle.std.proofs.Common.{◌≡◌, true, None, Some, is_some, option_copied, ap, sym, subst, ◌∙◌}
use Rattle.std.proofs.lemmas.Result.{IfOk-weaker}
use Rattle.event_script.specs.Seen.{answer_seen}
use Rattle.plan_project.specs.Lookups.{operation_in}
use Rattle.line_engine.proofs.KeepingLaws.{no_handle, the_handle}
use Rattle.line_engine.proofs.PlanLaws.{is_there}
use Rattle.line_engine.proofs.StepLaws.{refusing, same_step}
use Rattle.line_engine.proofs.TakingLaws.{renamed}
use Rattle.line_engine.proofs.engine.LineEngine.take_answer.Goals as goal
use Rattle.line_engine.specs.Answered.{Gives, Precedes}
use Rattle.line_engine.specs.Handles.{held_as}
use Rattle.line_engine.specs.Kept.{Kept}
use Rattle.line_engine.specs.Stands.{KeepsHandle, StandsFor}
use Rattle.relay_machine.specs.Machine.{Handle, Project, State, Step, answer_to, first_refused, handle_named, of_verdict, refuse, said_to, unless, unless_unknown}
use Rattle.relay_machine.specs.Refusals.{layers, too_many, unknown_handle}
use Rattle.serde_json.specs.View.{view}
use Rattle.plan_ir.specs.store_model.declared.entry.Entry.{Entry}

pub returns-in_default : goal.returns-in_default
returns-in_default g c = λ p s stands take.
    let k : Kept = c.args.self.now in
    let n = c.args.n in
    let name = c.as_str-handle.result.now in
    let called = c.args.answer.now.handle in
    let none : handle_named s.handles called ≡ None =
    no_handle k p s stands c.self.inside.retained.live name called (option_copied c.held.result) (ap (λ (x : Kept). x.handles) c.self.view_is) c.as_str-handle.ensures c.held.ensures (ap option_copied c.in_default.is) in
    same_step k p (refuse s n (unknown_handle name)) _ c.in_ok-lines.lines
    (ap (λ o. answer_to p s n o (answer_seen c.args.answer.now) c.args.commands (λ step. unless s n c.args.is_full (too_many layers) step) take) none
    ∙ ap (λ t. refuse s n (unknown_handle t)) (sym c.as_str-handle.ensures))
    (refusing k p s n (unknown_handle name) c.in_ok-lines.lines stands c.in_ok-lines.ensures)

pub take_response-requires : goal.take_response-requires
take_response-requires g c =
    let held = c.in-Some.held.now in
    record {
      there =
          subst (λ (x : Kept). is_some (operation_in x.defs x.documents held.name) ≡ true) c.self.view_is
          (is_there c.self.inside.project.0 c.self.inside.project.1 c.self.inside.retained c.as_str-handle.result.now held c.self.invariant (sym c.held.ensures ∙ ap option_copied c.in-Some.is)).there;
    }

pub returns-in-Some-2 : goal.returns-in-Some-2
returns-in-Some-2 g c = λ p s stands take.
    let k : Kept = c.args.self.now in
    let n = c.args.n in
    let cs = c.args.commands in
    let held = c.in-Some.held.now in
    let name = c.as_str-handle.result.now in
    let called = c.args.answer.now.handle in
    let h : (h : Handle) × (handle_named s.handles called ≡ Some h) × KeepsHandle p (held_as called held) h =
    the_handle k p s stands c.self.inside.retained.live name called (option_copied c.held.result) held (ap (λ (x : Kept). x.handles) c.self.view_is) c.as_str-handle.ensures c.held.ensures
    (ap option_copied c.in-Some.is) in
    let next : Step = of_verdict s n (said_to p h.0 (view c.args.answer.now.response)) cs take in
    let whole : Step = unless s n c.args.is_full (too_many layers) (unless_unknown s n (first_refused p.defs cs) next) in
    same_step k p whole _ c.in-Some-2.lines
    (ap (λ o. answer_to p s n o (answer_seen c.args.answer.now) cs (λ step. unless s n c.args.is_full (too_many layers) step) take) h.1)
    (subst (Precedes k p whole next) c.in-Some-2.is (c.in_ok-lines-2.ensures p s stands next))

pub returns-in-None : goal.returns-in-None
returns-in-None g c =
    let k : Kept = c.args.self.now in
    let n = c.args.n in
    let cs = c.args.commands in
    let held = c.in-Some.held.now in
    let name = c.as_str-handle.result.now in
    let called = c.args.answer.now.handle in
    IfOk-weaker c.take_response.result
    (λ taken. (p : Project) (s : State) (h : Handle) → StandsFor k p s → KeepsHandle p (held_as h.name held) h
    → (take : Entry → Step) → Gives k p (of_verdict s n (said_to p h (view c.args.answer.now.response)) cs take) take taken)
    (λ taken. (p : Project) (s : State) → StandsFor k p s → (take : Entry → Step)
    → Gives k p (answer_to p s n (handle_named s.handles called) (answer_seen c.args.answer.now) cs (λ step. unless s n c.args.is_full (too_many layers) step) take) take taken)
    (λ taken has p s stands take.
    let h : (h : Handle) × (handle_named s.handles called ≡ Some h) × KeepsHandle p (held_as called held) h =
    the_handle k p s stands c.self.inside.retained.live name called (option_copied c.held.result) held (ap (λ (x : Kept). x.handles) c.self.view_is) c.as_str-handle.ensures c.held.ensures
    (ap option_copied c.in-Some.is) in
    let next : Step = of_verdict s n (said_to p h.0 (view c.args.answer.now.response)) cs take in
    let whole : Step = unless s n c.args.is_full (too_many layers) (unless_unknown s n (first_refused p.defs cs) next) in
    let after : whole ≡ next = subst (Precedes k p whole next) c.in-None.is (c.in_ok-lines-2.ensures p s stands next) in
    subst (λ t. Gives k p t take taken)
    (sym (ap (λ o. answer_to p s n o (answer_seen c.args.answer.now) cs (λ step. unless s n c.args.is_full (too_many layers) step) take) h.1 ∙ after))
    (has p s h.0 stands (renamed p called held h.0 h.2) take))
    c.take_response.ensures
