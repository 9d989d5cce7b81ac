use Rattle.std.proofs.Common.{◌≡◌, ◌==◌, false, codes, length, Option, None, ap, sym, ◌∙◌, refl}
use Rattle.plan_ir.specs.Expansion.{variable_trees}
use Rattle.plan_project.specs.Lookups.{operation_in}
use Rattle.line_engine.proofs.Names.{equal, unequal}
use Rattle.line_engine.proofs.KeepingLaws.{handles_count}
use Rattle.line_engine.proofs.PlanLaws.{plan_is_held}
use Rattle.line_engine.proofs.StepLaws.{failing, refusing, same_step, unless-false, unless-true}
use Rattle.line_engine.proofs.engine.LineEngine.prepare_operation.Goals as goal
use Rattle.line_engine.specs.Kept.{Kept}
use Rattle.relay_machine.specs.Machine.{Handle, Step, accept, refuse, retain_operation, unless_failure, with_handle}
use Rattle.relay_machine.specs.Printed.{event_line}
use Rattle.relay_machine.specs.Refusals.{handles, most, too_many}
use Rattle.plan_ir.specs.schema_types.Environments.{Failure, environment, first_failure}

pub returns-then-count-eq-MAX_HANDLES-clause-step : goal.returns-then-count-eq-MAX_HANDLES-clause-step
returns-then-count-eq-MAX_HANDLES-clause-step g c = λ p s o stands keeps is name.
    let k : Kept = c.args.self.now in
    let n = c.args.n in
    let count : length s.handles ≡ most handles =
    handles_count k p s stands c.self.inside.retained.live c.count.result (ap (λ (x : Kept). x.handles) c.self.view_is) c.count.ensures ∙ c.if-count-eq-MAX_HANDLES.true in
    same_step k p (refuse s n (too_many handles)) (retain_operation p s n name o c.args.given.now) c.in_ok-lines.lines
    (unless-true s n (length s.handles == most handles) (too_many handles) _ (equal (length s.handles) (most handles) count))
    (refusing k p s n (too_many handles) c.in_ok-lines.lines stands c.in_ok-lines.ensures)

pub returns-in_ok-new-in-Ok-clause-there : goal.returns-in_ok-new-in-Ok-clause-there
returns-in_ok-new-in-Ok-clause-there g c =
    plan_is_held c.args.self.now.defs c.args.self.now.documents _ c.args.compiled.now c.in_ok-copy-in-Ok.ensures c.in_ok-clone-in-Ok.ensures.cases c.in_ok-clone-in-Ok-2.ensures.cases c.requires.there c.requires.reaches

pub returns-in_ok-new-in-Ok-clause-step : goal.returns-in_ok-new-in-Ok-clause-step
returns-in_ok-new-in-Ok-clause-step g c = λ p s o stands keeps is name.
    let k : Kept = c.args.self.now in
    let n = c.args.n in
    let given = c.args.given.now in
    let count : length s.handles ≡ c.count.result =
    handles_count k p s stands c.self.inside.retained.live c.count.result (ap (λ (x : Kept). x.handles) c.self.view_is) c.count.ensures in
    let room : (length s.handles == most handles) ≡ false = unequal (length s.handles) (most handles) (λ e. c.if-count-eq-MAX_HANDLES.false (sym count ∙ e)) in
    let schema : c.schema-schema.result.now ≡ p.defs = c.schema-schema.ensures ∙ ap (λ (x : Kept). x.defs) c.self.view_is ∙ stands.schema in
    let sound : first_failure p.defs (variable_trees o.variables) given ≡ None = (λ i. first_failure (sym schema i) (sym keeps.variables i) given) ∙ c.in-Ok.ensures.sound in
    let h : Handle = record { name = name; operation = o; values = environment (variable_trees o.variables) given } in
    let last : Step = accept (event_line (codes "retain") n) (with_handle h s) in (
      h,
      unless-false s n (length s.handles == most handles) (too_many handles) (unless_failure s n (first_failure p.defs (variable_trees o.variables) given) last) room
          ∙ ap (λ f. unless_failure s n f last) sound,
      record {
        name = refl;
        operation = ap (λ t. operation_in p.defs p.documents t) c.in_ok-copy-in-Ok.ensures ∙ is;
        root = ap (λ e. e.root) c.in_ok-new-in-Ok.ensures.ok ∙ c.in-Ok.ensures.root ∙ keeps.root;
        values = ap (λ e. e.values) c.in_ok-new-in-Ok.ensures.ok ∙ c.in-Ok.ensures.values ∙ ap (λ vs. environment vs given) keeps.variables;
      },
    )

pub returns-in_ok-refuse_variables-in-Err-clause-step : goal.returns-in_ok-refuse_variables-in-Err-clause-step
returns-in_ok-refuse_variables-in-Err-clause-step g c = λ p s o stands keeps is name.
    let k : Kept = c.args.self.now in
    let n = c.args.n in
    let given = c.args.given.now in
    let count : length s.handles ≡ c.count.result =
    handles_count k p s stands c.self.inside.retained.live c.count.result (ap (λ (x : Kept). x.handles) c.self.view_is) c.count.ensures in
    let room : (length s.handles == most handles) ≡ false = unequal (length s.handles) (most handles) (λ e. c.if-count-eq-MAX_HANDLES.false (sym count ∙ e)) in
    let schema : c.schema-schema.result.now ≡ p.defs = c.schema-schema.ensures ∙ ap (λ (x : Kept). x.defs) c.self.view_is ∙ stands.schema in
    let found : Option Failure = first_failure c.schema-schema.result.now c.args.compiled.now.variables given in
    let same : first_failure p.defs (variable_trees o.variables) given ≡ found = λ i. first_failure (sym schema i) (sym keeps.variables i) given in
    let h : Handle = record { name = name; operation = o; values = environment (variable_trees o.variables) given } in
    let last : Step = accept (event_line (codes "retain") n) (with_handle h s) in
    same_step k p (unless_failure s n found last) (retain_operation p s n name o given) c.in_ok-refuse_variables-in-Err.field-0
    (unless-false s n (length s.handles == most handles) (too_many handles) (unless_failure s n (first_failure p.defs (variable_trees o.variables) given) last) room
    ∙ ap (λ f. unless_failure s n f last) same)
    (failing k p s n found c.in-Err.fault c.in_ok-refuse_variables-in-Err.field-0 last stands c.in-Err.ensures.fault c.in_ok-refuse_variables-in-Err.ensures)
