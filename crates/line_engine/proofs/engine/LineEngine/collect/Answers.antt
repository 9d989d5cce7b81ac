use Rattle.std.proofs.Common.{◌≡◌, false, ◌||◌, length, map, ap, subst, ◌∙◌}
use Rattle.std.proofs.lemmas.Bool.{or_right}
use Rattle.std.proofs.lemmas.Result.{IfOk-weaker}
use Rattle.std.specs.List.{AllByRecursion}
use Rattle.plan_ir.specs.gql_plain.Order.{has_text}
use Rattle.plan_ir.specs.schema_tables.Types.{Text}
use Rattle.plan_ir.specs.store_model.Entries.{all_named}
use Rattle.plan_ir.specs.store_model.Leads.{leads}
use Rattle.plan_ir.specs.store_model.Records.{slot_at}
use Rattle.plan_ir.specs.store_model.Said.{HaveHandleKeys}
use Rattle.plan_ir.specs.store_model.Sweeps.{dropped}
use Rattle.plan_ir.specs.store_model.declared.entry.Entry.{Entry}
use Rattle.line_engine.proofs.ChangeLaws.{never_refused}
use Rattle.line_engine.proofs.SweepLaws.{has_differed, has_swept}
use Rattle.line_engine.proofs.WorkLaws.{always}
use Rattle.line_engine.proofs.engine.LineEngine.collect.Goals as goal
use Rattle.line_engine.specs.Answered.{AreLines}
use Rattle.line_engine.specs.Handles.{handle_kept, operation_kept}
use Rattle.line_engine.specs.Kept.{Kept}
use Rattle.line_engine.specs.Notices.{HasAnswered}
use Rattle.line_engine.specs.Operations.{HoldPlans}
use Rattle.line_engine.specs.Stands.{StandsFor}
use Rattle.line_engine.specs.Steps.{HasStepped, IsStep}
use Rattle.relay_machine.specs.Machine.{Project, State, Step, noticed, step_collect}
use Rattle.relay_machine.specs.Printed.{collect_line}
use Rattle.store_layers.specs.Drafts.{Fits, placed}
use Rattle.store_layers.specs.Layered.{Layered, entries_of, swept, view_of}
use Rattle.store_retain.specs.Kept.{all_held, is_kept}
use Rattle.store_retain.specs.Steps.{slots_of}
use Rattle.store_watch.specs.Watching.{DifferAt}
use Rattle.store_watch.specs.store_read.Reading.{slots}

pub returns-clause-step : goal.returns-clause-step
returns-clause-step g c =
    let k : Kept = c.args.self.now in
    let new : Kept = c.change.new.self in
    let n = c.args.n in
    let r = c.self.inside.retained in
    let keep = c.in_ok-keep.keep in
    let ids = c.in_ok-draft.draft.touched in
    let ls = placed g.S.RecordSource.records k.layers c.in_ok-draft.draft in
    let answer = c.in_ok-answer.answer in
    let live : map handle_kept r.live ≡ k.handles = ap (λ (x : Kept). x.handles) c.self.view_is in
    let gone : map operation_kept r.released ≡ k.released = ap (λ (x : Kept). x.released) c.self.view_is in
    let buffer : r.buffer ≡ k.buffer = ap (λ (x : Kept). x.buffer) c.self.view_is in
    let plans : HoldPlans k.defs k.documents (all_held r) = subst (λ (x : Kept). HoldPlans x.defs x.documents (all_held r)) c.self.view_is c.self.invariant in
    let same : c.self.inside.layers ≡ k.layers = ap (λ (x : Kept). x.layers) c.self.view_is in
    let keeps : (j : Text) → has_text keep j ≡ (is_kept (slots_of k.layers.base) (all_held r) j || has_text (leads k.layers.base (all_named (entries_of k.layers.live))) j)
    = λ j. c.in_ok-keep.ensures.ids j ∙ ap (λ (l : Layered). is_kept (slots_of l.base) (all_held r) j || has_text (leads l.base (all_named (entries_of l.live))) j) same in
    let made : ls ≡ swept keep k.layers = subst (λ l. placed g.S.RecordSource.records l c.in_ok-draft.draft ≡ swept keep l) same c.in_ok-draft.ensures.placed in
    let is : ids ≡ dropped (has_text keep) k.layers.base = c.in_ok-draft.ensures.dropped ∙ ap (λ (l : Layered). dropped (has_text keep) l.base) same in
    let changed : (id : Text) → has_text ids id ≡ false → slot_at id (view_of (swept keep k.layers)) ≡ slot_at id (view_of k.layers)
    = subst (λ (l : Layered). (id : Text) → has_text ids id ≡ false → slot_at id (view_of (swept keep l)) ≡ slot_at id (view_of l)) same c.in_ok-draft.ensures.changed in
    IfOk-weaker c.change.result
    (λ lines. (p : Project) (s : State) (step : Step) → StandsFor k p s → DifferAt ids (slots (view_of k.layers)) (slots (view_of ls)) → HasAnswered k ls p s step answer
    → IsStep p (noticed p n (length s.watches) step) lines new)
    (λ lines. HasStepped k new lines (λ p s. noticed p n (length s.watches) (step_collect p k.buffer s n)))
    (λ lines has p s stands.
    has p s (step_collect p k.buffer s n) stands (has_differed k.layers ls keep ids changed made)
    (has_swept k p s stands r live gone buffer plans keep keeps n ids ls answer made is
    (subst (λ d. AreLines (collect_line n d) false answer) c.len.ensures c.in_ok-answer.ensures)))
    c.change.ensures.step

pub returns-clause-spares : goal.returns-clause-spares
returns-clause-spares g c = record {
  buffer = c.change.ensures.buffer;
  refused = never_refused c.change.result (c.change.new.self ≡ c.args.self.now) c.in_ok-answer.answer (collect_line c.args.n c.len.result) c.change.ensures.refused c.in_ok-answer.ensures;
  err = c.change.ensures.err;
}

pub returns-clause-keys : goal.returns-clause-keys
returns-clause-keys g c =
    always c.change.result (λ lines. AllByRecursion (λ (e : Entry). HaveHandleKeys e.facts.handles) (entries_of c.args.self.now.layers.live))
    (λ lines. subst (λ (x : Kept). AllByRecursion (λ (e : Entry). HaveHandleKeys e.facts.handles) (entries_of x.layers.live)) c.self.view_is c.in_ok-draft.ensures.keys)

pub change-requires : goal.change-requires
change-requires g c = record { fits = subst (λ (x : Kept). Fits g.S.RecordSource.records x.layers c.in_ok-draft.draft) c.self.view_is c.in_ok-draft.ensures.fits }

pub draft_sweep-requires : goal.draft_sweep-requires
draft_sweep-requires g c =
    let r = c.self.inside.retained in
    let ls = c.self.inside.layers in
    record {
      kept = λ j led. c.in_ok-keep.ensures.ids j ∙ or_right (is_kept (slots_of ls.base) (all_held r) j) (has_text (leads ls.base (all_named (entries_of ls.live))) j) led;
    }
