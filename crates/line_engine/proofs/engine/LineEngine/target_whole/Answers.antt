use Rattle.std.proofs.Common.{[], ◌∷◌, None, Option, ap, sym, subst, ◌∙◌}
use Rattle.std.proofs.lemmas.Result.{IfOk-weaker}
use Rattle.line_engine.proofs.StepLaws.{unless-false, unless-true}
use Rattle.line_engine.proofs.TargetLaws.{same_target}
use Rattle.line_engine.proofs.engine.LineEngine.target_whole.Goals as goal
use Rattle.line_engine.specs.Handles.{held_as}
use Rattle.line_engine.specs.Kept.{Kept}
use Rattle.line_engine.specs.Operations.{HoldsPlan}
use Rattle.line_engine.specs.Parts.{IsProject}
use Rattle.line_engine.specs.Stands.{KeepsHandle, StandsFor}
use Rattle.line_engine.specs.Targets.{ReadsPart, TargetsPart}
use Rattle.relay_machine.specs.Machine.{Handle, PartShown, Project, State, Step, of_part, refuse, unless}
use Rattle.relay_machine.specs.Refusals.{too_many, watches}
use Rattle.plan_ir.specs.store_model.Events.{Part}
use Rattle.plan_ir.specs.store_model.Walks.{Found}

pub returns-then-is_full-clause-step : goal.returns-then-is_full-clause-step
returns-then-is_full-clause-step g c =
    let k : Kept = c.args.self.now in
    let n = c.args.n in
    let before : State → Step → Step = λ s step. unless s n c.args.is_full (too_many watches) step in
    IfOk-weaker c.too_many_watches.result
    (λ targeted. (p : Project) (s : State) (h : Handle) → StandsFor k p s → (take : Option PartShown → Step) → TargetsPart k p (refuse s n (too_many watches)) h take targeted)
    (λ targeted. (p : Project) (s : State) (h : Handle) → StandsFor k p s → KeepsHandle p (held_as c.args.handle.now c.args.held.now) h → (take : Option PartShown → Step)
    → TargetsPart k p (of_part p s n None (before s) take) h take targeted)
    (λ targeted has p s h stands keeps take.
    same_target k p (of_part p s n None (before s) take) (refuse s n (too_many watches)) h (unless-true s n c.args.is_full (too_many watches) (take None) c.if-is_full.true)
    take targeted (has p s h stands take))
    c.too_many_watches.ensures.step

pub returns-clause-step : goal.returns-clause-step
returns-clause-step g c = λ p s h stands keeps take.
    let n = c.args.n in
    let is : IsProject c.self.inside.project p = record { schema = ap (λ (x : Kept). x.defs) c.self.view_is ∙ stands.schema; documents = ap (λ (x : Kept). x.documents) c.self.view_is ∙ stands.documents } in
    (None, unless-false s n c.args.is_full (too_many watches) (take None) c.if-is_full.false, c.in_ok-what.ensures.shown p h is keeps)

pub returns-clause-found : goal.returns-clause-found
returns-clause-found g c = λ p s h stands keeps m.
    let is : IsProject c.self.inside.project p = record { schema = ap (λ (x : Kept). x.defs) c.self.view_is ∙ stands.schema; documents = ap (λ (x : Kept). x.documents) c.self.view_is ∙ stands.documents } in
    ap (λ (r : Found). r ∷ []) (c.in_ok-what.ensures.found p h is keeps m)

pub returns-then-is_full-clause-found : goal.returns-then-is_full-clause-found
returns-then-is_full-clause-found g c =
    IfOk-weaker c.too_many_watches.result (λ targeted. (p : Project) (h : Handle) (part : Option Part) → ReadsPart p h part targeted)
    (λ targeted. (p : Project) (s : State) (h : Handle) → StandsFor c.args.self.now p s → KeepsHandle p (held_as c.args.handle.now c.args.held.now) h → ReadsPart p h None targeted)
    (λ targeted has p s h stands keeps. has p h None) c.too_many_watches.ensures.found

pub whole_operation-requires : goal.whole_operation-requires
whole_operation-requires g c = subst (λ (x : Kept). HoldsPlan x.defs x.documents c.args.held.now) (sym c.self.view_is) c.requires.there
