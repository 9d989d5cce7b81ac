use Rattle.std.proofs.Common.{◌≡◌, [], ◌∷◌, ◌++◌, false, ap, sym, subst, ◌∙◌}
use Rattle.line_engine.proofs.KeepingLaws.{kept_of, shown_is, stands_watched, with_watches}
use Rattle.line_engine.proofs.StepLaws.{accepting}
use Rattle.line_engine.proofs.WorkLaws.{looked}
use Rattle.line_engine.proofs.engine.LineEngine.start_watch.Goals as goal
use Rattle.line_engine.specs.Answered.{AreLines}
use Rattle.line_engine.specs.Kept.{Kept}
use Rattle.line_engine.specs.Stands.{StandsFor}
use Rattle.relay_machine.specs.Machine as machine
use Rattle.relay_machine.specs.Machine.{State, shown, started, view}
use Rattle.relay_machine.specs.Printed.{watch_line}
use Rattle.store_layers.specs.Layered.{view_of}
use Rattle.store_watch.specs.store_read.Reading.{reading_of, slots}
use Rattle.store_watch.specs.Rows.{look_of}
use Rattle.store_watch.specs.Watching.{is_live, shows}

pub start-requires : goal.start-requires
start-requires g c = ap (λ (x : Kept). is_live x.watches c.args.watch) c.self.view_is ∙ c.requires.free

pub returns-clause-step : goal.returns-clause-step
returns-clause-step g c = λ p s h part stands what.
    let n = c.args.n in
    let name = c.args.watch in
    let old = c.self.inside in
    let look = look_of c.args.what in
    let snapshot = c.in_ok-snapshot.snapshot in
    let k : Kept = kept_of old.project old.layers old.retained old.watches in
    let here : StandsFor k p s = subst (λ (x : Kept). StandsFor x p s) (sym c.self.view_is) stands in
    let read : reading_of snapshot ≡ shows (slots (view_of old.layers)) look = c.in_ok-snapshot.ensures.read ∙ ap (λ m. shows (slots m) look) c.view.ensures in
    let last : State = machine.with_watches (s.watches ++ started name h part (shown p (view p s) h part) ∷ []) s in
    accepting (with_watches k c.start.new.self) p last (watch_line n (shown p (view p s) h part)) c.in_ok-lines.lines
    (subst (λ ws. StandsFor (with_watches k ws) p last) (sym c.in_ok-start.ensures.ok) (stands_watched k p s here name look h part (reading_of snapshot) what read))
    (subst (λ r. AreLines (watch_line n r) false c.in_ok-lines.lines) (shown_is k p s here look h part (reading_of snapshot) what read) c.in_ok-lines.ensures)

pub returns-in_err-snapshot-clause-looks : goal.returns-in_err-snapshot-clause-looks
returns-in_err-snapshot-clause-looks g c =
    looked c.self.inside.layers c.args.self.now (look_of c.args.what) (g.S.RecordSource.records c.view.result.now) c.view.ensures (ap (λ (x : Kept). x.layers) c.self.view_is)
    (g.S.Count.Steps.looks c.args.steps.now) (g.S.Count.Steps.looks c.look.new.steps) c.look.ensures.looks

pub returns-in_err-lines-clause-looks : goal.returns-in_err-lines-clause-looks
returns-in_err-lines-clause-looks g c =
    looked c.self.inside.layers c.args.self.now (look_of c.args.what) (g.S.RecordSource.records c.view.result.now) c.view.ensures (ap (λ (x : Kept). x.layers) c.self.view_is)
    (g.S.Count.Steps.looks c.args.steps.now) (g.S.Count.Steps.looks c.look.new.steps) c.look.ensures.looks

pub returns-in_err-start-clause-looks : goal.returns-in_err-start-clause-looks
returns-in_err-start-clause-looks g c =
    looked c.self.inside.layers c.args.self.now (look_of c.args.what) (g.S.RecordSource.records c.view.result.now) c.view.ensures (ap (λ (x : Kept). x.layers) c.self.view_is)
    (g.S.Count.Steps.looks c.args.steps.now) (g.S.Count.Steps.looks c.look.new.steps) c.look.ensures.looks

pub returns-clause-looks : goal.returns-clause-looks
returns-clause-looks g c =
    looked c.self.inside.layers c.args.self.now (look_of c.args.what) (g.S.RecordSource.records c.view.result.now) c.view.ensures (ap (λ (x : Kept). x.layers) c.self.view_is)
    (g.S.Count.Steps.looks c.args.steps.now) (g.S.Count.Steps.looks c.look.new.steps) c.look.ensures.looks
