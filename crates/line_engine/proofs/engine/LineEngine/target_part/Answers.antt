use Rattle.std.proofs.Common.{◌≡◌, None, Some, Option, option_copied, ap, sym, subst, ◌∙◌}
use Rattle.std.proofs.lemmas.Result.{IfOk-weaker}
use Rattle.event_script.specs.Seen.{part_seen}
use Rattle.plan_project.specs.Lookups.{KeepsFragment, ReadsFragment, fragment_in}
use Rattle.line_engine.proofs.Names.{agreed, found_left, none_left}
use Rattle.line_engine.proofs.StepLaws.{refusing, same_step, unless-false, unless-true}
use Rattle.line_engine.proofs.TargetLaws.{reads_named, same_target}
use Rattle.line_engine.proofs.engine.LineEngine.target_part.Goals as goal
use Rattle.line_engine.specs.Handles.{held_as}
use Rattle.line_engine.specs.Kept.{Kept}
use Rattle.line_engine.specs.Stands.{KeepsHandle, StandsFor}
use Rattle.line_engine.specs.Targets.{ReadsFragmentAt, ReadsPart, TargetsPart}
use Rattle.relay_machine.specs.Machine.{Handle, PartShown, Project, State, Step, of_fragment, of_part, refuse, unless}
use Rattle.relay_machine.specs.Refusals.{too_many, unknown_fragment, watches}
use Rattle.plan_ir.specs.schema_types.Sites.{FragmentAt}
use Rattle.plan_ir.specs.store_model.Events.{Part}

pub returns-in_default-clause-step : goal.returns-in_default-clause-step
returns-in_default-clause-step g c = λ p s h stands keeps take.
    let k : Kept = c.args.self.now in
    let n = c.args.n in
    let part = part_seen c.args.part.now in
    let called = c.as_str-name.result.now in
    let defs = c.self.inside.project.0 in
    let docs = c.self.inside.project.1 in
    let schema : defs ≡ p.defs = ap (λ (x : Kept). x.defs) c.self.view_is ∙ stands.schema in
    let documents : docs ≡ p.documents = ap (λ (x : Kept). x.documents) c.self.view_is ∙ stands.documents in
    let none : fragment_in p.defs p.documents part.fragment ≡ None =
    (λ i. fragment_in (sym schema i) (sym documents i) (sym c.as_str-name.ensures i))
    ∙ none_left (KeepsFragment defs called) (fragment_in defs docs called) (option_copied c.fragment.result) c.fragment.ensures.kept (ap option_copied c.in_default.is) in
    same_step k p (refuse s n (unknown_fragment called)) _ c.in_ok-lines.lines
    (ap (λ o. of_fragment p s n part o (λ step. unless s n c.args.is_full (too_many watches) step) take) none ∙ ap (λ t. refuse s n (unknown_fragment t)) (sym c.as_str-name.ensures))
    (refusing k p s n (unknown_fragment called) c.in_ok-lines.lines stands c.in_ok-lines.ensures)

pub returns-then-is_full-clause-step : goal.returns-then-is_full-clause-step
returns-then-is_full-clause-step g c =
    let k : Kept = c.args.self.now in
    let n = c.args.n in
    let part = part_seen c.args.part.now in
    let called = c.as_str-name.result.now in
    let fragment = c.in-Some.fragment.now in
    let defs = c.self.inside.project.0 in
    let docs = c.self.inside.project.1 in
    let before : State → Step → Step = λ s step. unless s n c.args.is_full (too_many watches) step in
    let f : (f : FragmentAt) × (fragment_in defs docs called ≡ Some f) × KeepsFragment defs called f fragment =
    found_left (KeepsFragment defs called) (fragment_in defs docs called) (option_copied c.fragment.result) fragment c.fragment.ensures.kept (ap option_copied c.in-Some.is) in
    IfOk-weaker c.too_many_watches.result
    (λ targeted. (p : Project) (s : State) (h : Handle) → StandsFor k p s → (take : Option PartShown → Step) → TargetsPart k p (refuse s n (too_many watches)) h take targeted)
    (λ targeted. (p : Project) (s : State) (h : Handle) → StandsFor k p s → KeepsHandle p (held_as c.args.handle.now c.args.held.now) h → (take : Option PartShown → Step)
    → TargetsPart k p (of_part p s n (Some part) (before s) take) h take targeted)
    (λ targeted has p s h stands keeps take.
    let schema : defs ≡ p.defs = ap (λ (x : Kept). x.defs) c.self.view_is ∙ stands.schema in
    let documents : docs ≡ p.documents = ap (λ (x : Kept). x.documents) c.self.view_is ∙ stands.documents in
    let named : fragment_in p.defs p.documents part.fragment ≡ Some f.0 = (λ i. fragment_in (sym schema i) (sym documents i) (sym c.as_str-name.ensures i)) ∙ f.1 in
    same_target k p (of_part p s n (Some part) (before s) take) (refuse s n (too_many watches)) h
    (ap (λ o. of_fragment p s n part o (before s) take) named ∙ unless-true s n c.args.is_full (too_many watches) (of_fragment p s n part (Some f.0) (λ step. step) take) c.if-is_full.true)
    take targeted (has p s h stands take))
    c.too_many_watches.ensures.step

pub returns-clause-step : goal.returns-clause-step
returns-clause-step g c =
    let k : Kept = c.args.self.now in
    let n = c.args.n in
    let part = part_seen c.args.part.now in
    let called = c.as_str-name.result.now in
    let fragment = c.in-Some.fragment.now in
    let defs = c.self.inside.project.0 in
    let docs = c.self.inside.project.1 in
    let before : State → Step → Step = λ s step. unless s n c.args.is_full (too_many watches) step in
    let f : (f : FragmentAt) × (fragment_in defs docs called ≡ Some f) × KeepsFragment defs called f fragment =
    found_left (KeepsFragment defs called) (fragment_in defs docs called) (option_copied c.fragment.result) fragment c.fragment.ensures.kept (ap option_copied c.in-Some.is) in
    let reads : ReadsFragment defs docs f.0 fragment =
    agreed (ReadsFragment defs docs) (fragment_in defs docs called) (option_copied c.fragment.result) f.0 fragment c.fragment.ensures.reads f.1 (ap option_copied c.in-Some.is) in
    IfOk-weaker c.target_fragment.result
    (λ targeted. (p : Project) (s : State) (h : Handle) (f : FragmentAt) → StandsFor k p s → KeepsHandle p (held_as c.args.handle.now c.args.held.now) h
    → fragment_in p.defs p.documents part.fragment ≡ Some f → KeepsFragment p.defs part.fragment f fragment → ReadsFragment p.defs p.documents f fragment
    → (take : Option PartShown → Step) → TargetsPart k p (of_fragment p s n part (Some f) (λ step. step) take) h take targeted)
    (λ targeted. (p : Project) (s : State) (h : Handle) → StandsFor k p s → KeepsHandle p (held_as c.args.handle.now c.args.held.now) h → (take : Option PartShown → Step)
    → TargetsPart k p (of_part p s n (Some part) (before s) take) h take targeted)
    (λ targeted has p s h stands keeps take.
    let schema : defs ≡ p.defs = ap (λ (x : Kept). x.defs) c.self.view_is ∙ stands.schema in
    let documents : docs ≡ p.documents = ap (λ (x : Kept). x.documents) c.self.view_is ∙ stands.documents in
    let named : fragment_in p.defs p.documents part.fragment ≡ Some f.0 = (λ i. fragment_in (sym schema i) (sym documents i) (sym c.as_str-name.ensures i)) ∙ f.1 in
    let kept : KeepsFragment p.defs part.fragment f.0 fragment =
    subst (λ d. KeepsFragment d part.fragment f.0 fragment) schema (subst (λ t. KeepsFragment defs t f.0 fragment) c.as_str-name.ensures f.2) in
    let read : ReadsFragment p.defs p.documents f.0 fragment = subst (λ d. ReadsFragment d p.documents f.0 fragment) schema (subst (λ ds. ReadsFragment defs ds f.0 fragment) documents reads) in
    let whole : Step = of_fragment p s n part (Some f.0) (λ step. step) take in
    same_target k p (of_part p s n (Some part) (before s) take) whole h
    (ap (λ o. of_fragment p s n part o (before s) take) named ∙ unless-false s n c.args.is_full (too_many watches) whole c.if-is_full.false)
    take targeted (has p s h f.0 stands keeps named kept read take))
    c.target_fragment.ensures.step

pub returns-then-is_full-clause-found : goal.returns-then-is_full-clause-found
returns-then-is_full-clause-found g c =
    IfOk-weaker c.too_many_watches.result (λ targeted. (p : Project) (h : Handle) (part : Option Part) → ReadsPart p h part targeted)
    (λ targeted. (p : Project) (s : State) (h : Handle) → StandsFor c.args.self.now p s → KeepsHandle p (held_as c.args.handle.now c.args.held.now) h → ReadsPart p h (Some (part_seen c.args.part.now)) targeted)
    (λ targeted has p s h stands keeps. has p h (Some (part_seen c.args.part.now))) c.too_many_watches.ensures.found

pub returns-clause-found : goal.returns-clause-found
returns-clause-found g c =
    let part = part_seen c.args.part.now in
    let called = c.as_str-name.result.now in
    let fragment = c.in-Some.fragment.now in
    let defs = c.self.inside.project.0 in
    let docs = c.self.inside.project.1 in
    let f : (f : FragmentAt) × (fragment_in defs docs called ≡ Some f) × KeepsFragment defs called f fragment =
    found_left (KeepsFragment defs called) (fragment_in defs docs called) (option_copied c.fragment.result) fragment c.fragment.ensures.kept (ap option_copied c.in-Some.is) in
    let reads : ReadsFragment defs docs f.0 fragment =
    agreed (ReadsFragment defs docs) (fragment_in defs docs called) (option_copied c.fragment.result) f.0 fragment c.fragment.ensures.reads f.1 (ap option_copied c.in-Some.is) in
    IfOk-weaker c.target_fragment.result
    (λ targeted. (p : Project) (h : Handle) (f : FragmentAt) → KeepsHandle p (held_as c.args.handle.now c.args.held.now) h
    → KeepsFragment p.defs part.fragment f fragment → ReadsFragment p.defs p.documents f fragment → ReadsFragmentAt p h part f targeted)
    (λ targeted. (p : Project) (s : State) (h : Handle) → StandsFor c.args.self.now p s → KeepsHandle p (held_as c.args.handle.now c.args.held.now) h → ReadsPart p h (Some part) targeted)
    (λ targeted has p s h stands keeps.
    let schema : defs ≡ p.defs = ap (λ (x : Kept). x.defs) c.self.view_is ∙ stands.schema in
    let documents : docs ≡ p.documents = ap (λ (x : Kept). x.documents) c.self.view_is ∙ stands.documents in
    let named : fragment_in p.defs p.documents part.fragment ≡ Some f.0 = (λ i. fragment_in (sym schema i) (sym documents i) (sym c.as_str-name.ensures i)) ∙ f.1 in
    let kept : KeepsFragment p.defs part.fragment f.0 fragment =
    subst (λ d. KeepsFragment d part.fragment f.0 fragment) schema (subst (λ t. KeepsFragment defs t f.0 fragment) c.as_str-name.ensures f.2) in
    let read : ReadsFragment p.defs p.documents f.0 fragment = subst (λ d. ReadsFragment d p.documents f.0 fragment) schema (subst (λ ds. ReadsFragment defs ds f.0 fragment) documents reads) in
    reads_named p h part f.0 named targeted (has p h f.0 keeps kept read))
    c.target_fragment.ensures.found
