use Rattle.std.proofs.Common.{◌≡◌, [], ◌∷◌, None, Some, Option, map, ap, sym, ◌∙◌}
use Rattle.event_script.specs.Seen.{part_seen}
use Rattle.plan_ir.specs.relay_marks.Locals.{locals_of}
use Rattle.plan_ir.specs.relay_marks.View.{local_view}
use Rattle.line_engine.proofs.StepLaws.{failing, same_step}
use Rattle.line_engine.proofs.TargetLaws.{under_scope}
use Rattle.line_engine.proofs.engine.LineEngine.target_fragment.Goals as goal
use Rattle.line_engine.specs.Kept.{Kept}
use Rattle.relay_machine.specs.Machine.{PartShown, Step, first_local_failure, fragment_read, of_fragment, scope_given, unless_failure}
use Rattle.plan_ir.specs.schema_types.Environments.{Failure, Values}
use Rattle.plan_ir.specs.store_model.Walks.{Found}
use Rattle.store_watch.specs.Rows.{look_of}

pub returns-in_ok-what-in-Ok-clause-step : goal.returns-in_ok-what-in-Ok-clause-step
returns-in_ok-what-in-Ok-clause-step g c = λ p s h f stands keeps named kept reads take.
    let n = c.args.n in
    let part = part_seen c.args.part.now in
    let fragment = c.args.fragment.now in
    let schema : c.schema-schema.result.now ≡ p.defs = c.schema-schema.ensures ∙ ap (λ (x : Kept). x.defs) c.self.view_is ∙ stands.schema in
    let sound : first_local_failure p.defs (locals_of f.directives) part.args ≡ None =
    (λ i. first_local_failure (sym schema i) (sym kept.locals i) part.args) ∙ c.in-Ok.ensures.sound in
    let values : c.in-Ok.scope.values ≡ scope_given (locals_of f.directives) part.args = c.in-Ok.ensures.values ∙ ap (λ ls. scope_given ls part.args) kept.locals in
    let shown : PartShown = record { fragment = f; scope = scope_given (locals_of f.directives) part.args; id = part.id } in (
      Some shown,
      ap (λ x. unless_failure s n x (take (Some shown))) sound,
      under_scope p (look_of c.in_ok-what-in-Ok.what) h f part.id c.in-Ok.scope.values (scope_given (locals_of f.directives) part.args) values
          (c.in_ok-what-in-Ok.ensures.shown p h f part.fragment named kept reads keeps part.args c.in-Ok.ensures.environment),
    )

pub returns-in_ok-refuse_variables-in-Err-clause-step : goal.returns-in_ok-refuse_variables-in-Err-clause-step
returns-in_ok-refuse_variables-in-Err-clause-step g c = λ p s h f stands keeps named kept reads take.
    let k : Kept = c.args.self.now in
    let n = c.args.n in
    let part = part_seen c.args.part.now in
    let fragment = c.args.fragment.now in
    let schema : c.schema-schema.result.now ≡ p.defs = c.schema-schema.ensures ∙ ap (λ (x : Kept). x.defs) c.self.view_is ∙ stands.schema in
    let found : Option Failure = first_local_failure c.schema-schema.result.now (map local_view fragment.locals) part.args in
    let same : first_local_failure p.defs (locals_of f.directives) part.args ≡ found = λ i. first_local_failure (sym schema i) (sym kept.locals i) part.args in
    let last : Step = take (Some (record { fragment = f; scope = scope_given (locals_of f.directives) part.args; id = part.id })) in
    same_step k p (unless_failure s n found last) (of_fragment p s n part (Some f) (λ step. step) take) c.in_ok-refuse_variables-in-Err.field-0
    (ap (λ x. unless_failure s n x last) same)
    (failing k p s n found c.in-Err.fault c.in_ok-refuse_variables-in-Err.field-0 last stands c.in-Err.ensures.fault c.in_ok-refuse_variables-in-Err.ensures)

pub returns-in_ok-what-in-Ok-clause-found : goal.returns-in_ok-what-in-Ok-clause-found
returns-in_ok-what-in-Ok-clause-found g c = λ p h f keeps kept reads m.
    let part = part_seen c.args.part.now in
    let values : c.in-Ok.scope.values ≡ scope_given (locals_of f.directives) part.args = c.in-Ok.ensures.values ∙ ap (λ ls. scope_given ls part.args) kept.locals in
    ap (λ (r : Found). r ∷ [])
    (ap (λ (vs : Values). fragment_read p m h f vs part.id) (sym values) ∙ c.in_ok-what-in-Ok.ensures.found p h f part.fragment kept reads keeps part.args c.in-Ok.ensures.environment m)
