use Rattle.std.proofs.Common.{◌≡◌, None, Some, Option, option_map, option_copied, ap, sym, subst, ◌∙◌}
use Rattle.std.proofs.lemmas.Result.{IfOk-weaker}
use Rattle.event_script.specs.Seen.{part_seen, target_seen}
use Rattle.line_engine.proofs.KeepingLaws.{no_handle, the_handle}
use Rattle.line_engine.proofs.PlanLaws.{is_there}
use Rattle.line_engine.proofs.StepLaws.{refusing, same_step}
use Rattle.line_engine.proofs.TargetLaws.{of_handle, reads_known}
use Rattle.line_engine.proofs.engine.LineEngine.target.Goals as goal
use Rattle.line_engine.specs.Handles.{held_as}
use Rattle.line_engine.specs.Kept.{Kept}
use Rattle.line_engine.specs.Operations.{HoldsPlan}
use Rattle.line_engine.specs.Stands.{KeepsHandle, StandsFor}
use Rattle.line_engine.specs.Targets.{ReadsPart, ReadsTarget, Targets, TargetsPart}
use Rattle.relay_machine.specs.Machine.{Handle, PartShown, Project, State, Step, handle_named, of_part, of_target, refuse, unless}
use Rattle.relay_machine.specs.Refusals.{too_many, unknown_handle, watches}

pub returns-in_default-clause-step : goal.returns-in_default-clause-step
returns-in_default-clause-step g c = λ p s stands take.
    let k : Kept = c.args.self.now in
    let n = c.args.n in
    let target = target_seen c.args.target.now in
    let name = c.as_str.result.now in
    let told = c.as_str-in_default.result.now in
    let none : handle_named s.handles target.handle ≡ None =
    no_handle k p s stands c.self.inside.retained.live name target.handle (option_copied c.held.result) (ap (λ (x : Kept). x.handles) c.self.view_is) c.as_str.ensures c.held.ensures
    (ap option_copied c.in_default.is) in
    same_step k p (refuse s n (unknown_handle told)) _ c.in_ok-refuse.field-0
    (ap (λ o. of_target p s n target o (λ step. unless s n c.args.is_full (too_many watches) step) take) none ∙ ap (λ t. refuse s n (unknown_handle t)) (sym c.as_str-in_default.ensures))
    (refusing k p s n (unknown_handle told) c.in_ok-refuse.field-0 stands c.in_ok-refuse.ensures)

pub target_whole-requires : goal.target_whole-requires
target_whole-requires g c =
    let held = c.in-Some.held.now in
    record {
      there =
          subst (λ (x : Kept). HoldsPlan x.defs x.documents held) c.self.view_is
          (is_there c.self.inside.project.0 c.self.inside.project.1 c.self.inside.retained c.as_str.result.now held c.self.invariant (sym c.held.ensures ∙ ap option_copied c.in-Some.is));
    }

pub returns-in-Some-part-clause-step : goal.returns-in-Some-part-clause-step
returns-in-Some-part-clause-step g c =
    let k : Kept = c.args.self.now in
    let n = c.args.n in
    let target = target_seen c.args.target.now in
    let name = c.as_str.result.now in
    let held = c.in-Some.held.now in
    let part = part_seen c.in-Some-part.part in
    let before : State → Step → Step = λ s step. unless s n c.args.is_full (too_many watches) step in
    IfOk-weaker c.target_part.result
    (λ targeted. (p : Project) (s : State) (h : Handle) → StandsFor k p s → KeepsHandle p (held_as target.handle held) h → (take : Option PartShown → Step)
    → TargetsPart k p (of_part p s n (Some part) (before s) take) h take targeted)
    (λ targeted. (p : Project) (s : State) → StandsFor k p s → (take : Handle → Option PartShown → Step)
    → Targets k p (of_target p s n target (handle_named s.handles target.handle) (before s) take) take targeted)
    (λ targeted has p s stands take.
    let h : (h : Handle) × (handle_named s.handles target.handle ≡ Some h) × KeepsHandle p (held_as target.handle held) h =
    the_handle k p s stands c.self.inside.retained.live name target.handle (option_copied c.held.result) held (ap (λ (x : Kept). x.handles) c.self.view_is) c.as_str.ensures c.held.ensures
    (ap option_copied c.in-Some.is) in
    of_handle k p (of_target p s n target (handle_named s.handles target.handle) (before s) take) (of_part p s n (Some part) (before s) (take h.0)) h.0
    (ap (λ o. of_target p s n target o (before s) take) h.1 ∙ ap (λ o. of_part p s n (option_map part_seen o) (before s) (take h.0)) c.in-Some-part.is)
    take targeted (has p s h.0 stands h.2 (take h.0)))
    c.target_part.ensures.step

pub returns-in-None-clause-step : goal.returns-in-None-clause-step
returns-in-None-clause-step g c =
    let k : Kept = c.args.self.now in
    let n = c.args.n in
    let target = target_seen c.args.target.now in
    let name = c.as_str.result.now in
    let held = c.in-Some.held.now in
    let before : State → Step → Step = λ s step. unless s n c.args.is_full (too_many watches) step in
    IfOk-weaker c.target_whole.result
    (λ targeted. (p : Project) (s : State) (h : Handle) → StandsFor k p s → KeepsHandle p (held_as target.handle held) h → (take : Option PartShown → Step)
    → TargetsPart k p (of_part p s n None (before s) take) h take targeted)
    (λ targeted. (p : Project) (s : State) → StandsFor k p s → (take : Handle → Option PartShown → Step)
    → Targets k p (of_target p s n target (handle_named s.handles target.handle) (before s) take) take targeted)
    (λ targeted has p s stands take.
    let h : (h : Handle) × (handle_named s.handles target.handle ≡ Some h) × KeepsHandle p (held_as target.handle held) h =
    the_handle k p s stands c.self.inside.retained.live name target.handle (option_copied c.held.result) held (ap (λ (x : Kept). x.handles) c.self.view_is) c.as_str.ensures c.held.ensures
    (ap option_copied c.in-Some.is) in
    of_handle k p (of_target p s n target (handle_named s.handles target.handle) (before s) take) (of_part p s n None (before s) (take h.0)) h.0
    (ap (λ o. of_target p s n target o (before s) take) h.1 ∙ ap (λ o. of_part p s n (option_map part_seen o) (before s) (take h.0)) c.in-None.is)
    take targeted (has p s h.0 stands h.2 (take h.0)))
    c.target_whole.ensures.step

pub returns-in-Some-part-clause-found : goal.returns-in-Some-part-clause-found
returns-in-Some-part-clause-found g c =
    let k : Kept = c.args.self.now in
    let target = target_seen c.args.target.now in
    let name = c.as_str.result.now in
    let held = c.in-Some.held.now in
    let part = part_seen c.in-Some-part.part in
    IfOk-weaker c.target_part.result
    (λ targeted. (p : Project) (s : State) (h : Handle) → StandsFor k p s → KeepsHandle p (held_as target.handle held) h → ReadsPart p h (Some part) targeted)
    (λ targeted. (p : Project) (s : State) → StandsFor k p s → ReadsTarget p s target targeted)
    (λ targeted has p s stands.
    let h : (h : Handle) × (handle_named s.handles target.handle ≡ Some h) × KeepsHandle p (held_as target.handle held) h =
    the_handle k p s stands c.self.inside.retained.live name target.handle (option_copied c.held.result) held (ap (λ (x : Kept). x.handles) c.self.view_is) c.as_str.ensures c.held.ensures
    (ap option_copied c.in-Some.is) in
    reads_known p s target h.0 (Some part) h.1 (ap (option_map part_seen) c.in-Some-part.is) targeted (has p s h.0 stands h.2))
    c.target_part.ensures.found

pub returns-in-None-clause-found : goal.returns-in-None-clause-found
returns-in-None-clause-found g c =
    let k : Kept = c.args.self.now in
    let target = target_seen c.args.target.now in
    let name = c.as_str.result.now in
    let held = c.in-Some.held.now in
    IfOk-weaker c.target_whole.result
    (λ targeted. (p : Project) (s : State) (h : Handle) → StandsFor k p s → KeepsHandle p (held_as target.handle held) h → ReadsPart p h None targeted)
    (λ targeted. (p : Project) (s : State) → StandsFor k p s → ReadsTarget p s target targeted)
    (λ targeted has p s stands.
    let h : (h : Handle) × (handle_named s.handles target.handle ≡ Some h) × KeepsHandle p (held_as target.handle held) h =
    the_handle k p s stands c.self.inside.retained.live name target.handle (option_copied c.held.result) held (ap (λ (x : Kept). x.handles) c.self.view_is) c.as_str.ensures c.held.ensures
    (ap option_copied c.in-Some.is) in
    reads_known p s target h.0 None h.1 (ap (option_map part_seen) c.in-None.is) targeted (has p s h.0 stands h.2))
    c.target_whole.ensures.found
