use Rattle.std.proofs.Common.{◌≡◌, ◌+◌, ◌++◌, ◌∷◌, [], length, refl, sym, ap, subst, ◌∙◌, arith, append_assoc, length-append}
use Rattle.std.proofs.lemmas.List.{append-nil}
use Rattle.relay_forms.specs.Progress.{after, ended_line, longer, step_of, told}
use Rattle.relay_forms.specs.Puts.{IsPut}
use Rattle.plan_ir.specs.schema_tables.Types.{Text}
use Rattle.relay_forms.proofs.ProgressLaws.{after_line, after_plain, told_line, told_plain}
use Rattle.relay_forms.proofs.PutLaws.{put_both, put_of, stopped}
use Rattle.relay_top.specs.Sessions.{IsAt}
use Rattle.relay_top.proofs.session.Session.take_piece.Goals as goal

pub returns-in_default-keep-clause-err : goal.returns-in_default-keep-clause-err
returns-in_default-keep-clause-err g c = λ p buffer q at.
    let s = c.lines.invariant.so_far p buffer q at in
    put_of (told p buffer q c.args.piece.now) s.2 (told p buffer s.0 c.lines.rest.now) _ (g.K.Sink.contents c.args.out.now) (g.K.Sink.contents c.lines.out) (g.K.Sink.calls c.args.out.now) (g.K.Sink.calls c.lines.out) s.4 s.3

pub returns-in-Err-clause-err : goal.returns-in-Err-clause-err
returns-in-Err-clause-err g c = λ p buffer q at.
    let s = c.lines.invariant.so_far p buffer q at in
    let line = c.in-Some.line.now in
    let come = longer s.0 line in
    let text = (step_of p buffer come).text in
    let rest = told p buffer (ended_line p buffer come) c.in-Some.behind.now in
    let all : told p buffer q c.args.piece.now ≡ (s.2 ++ text) ++ rest =
    s.4 ∙ ap (λ t. s.2 ++ t) (ap (told p buffer s.0) c.in-Some.ensures.some.0 ∙ told_line p buffer s.0 line c.in-Some.behind.now c.in-Some.ensures.some.1 s.1.short) ∙ sym (append_assoc s.2 text rest) in
    stopped (told p buffer q c.args.piece.now) s.2 text rest _ (g.K.Sink.contents c.args.out.now) (g.K.Sink.contents c.lines.out) (g.K.Sink.contents c.answer.new.out)
    (g.K.Sink.calls c.args.out.now) (g.K.Sink.calls c.lines.out) (g.K.Sink.calls c.answer.new.out) all s.3
    (c.in-Err.ensures.err p buffer come (c.in-Ok.ensures.longer p buffer s.0 s.1))

pub lines-preserved : goal.lines-preserved
lines-preserved g c = record {
  so_far = λ p buffer q at.
      let s = c.lines.invariant.so_far p buffer q at in
      let line = c.in-Some.line.now in
      let come = longer s.0 line in
      let text = (step_of p buffer come).text in
      let rest = told p buffer (ended_line p buffer come) c.in-Some.behind.now in
      let w = c.in_default-answer.ensures.ok p buffer come (c.in-Ok.ensures.longer p buffer s.0 s.1) in (
        ended_line p buffer come,
        w.0,
        s.2 ++ text,
        put_both s.2 text (g.K.Sink.contents c.args.out.now) (g.K.Sink.contents c.lines.out) (g.K.Sink.contents c.answer.new.out)
            (g.K.Sink.calls c.args.out.now) (g.K.Sink.calls c.lines.out) (g.K.Sink.calls c.answer.new.out) s.3 w.1,
        s.4 ∙ ap (λ t. s.2 ++ t) (ap (told p buffer s.0) c.in-Some.ensures.some.0 ∙ told_line p buffer s.0 line c.in-Some.behind.now c.in-Some.ensures.some.1 s.1.short) ∙ sym (append_assoc s.2 text rest),
        s.5 ∙ ap (after p buffer s.0) c.in-Some.ensures.some.0 ∙ after_line p buffer s.0 line c.in-Some.behind.now c.in-Some.ensures.some.1 s.1.short,
      );
  number =
      let long = ap length c.in-Some.ensures.some.0 ∙ length-append c.in-Some.line.now (10 ∷ c.in-Some.behind.now) in
      omega (arith, c.lines.invariant.number, c.in-Ok.ensures.number, c.in_default-answer.ensures.number, long);
  later = omega (arith, c.lines.invariant.later, c.answer.ensures.later);
}

pub returns-in_default-keep-2-clause-err : goal.returns-in_default-keep-2-clause-err
returns-in_default-keep-2-clause-err g c = λ p buffer q at.
    let s = c.lines.invariant.so_far p buffer q at in
    put_of (told p buffer q c.args.piece.now) s.2 (told p buffer s.0 c.lines.rest.now) _ (g.K.Sink.contents c.args.out.now) (g.K.Sink.contents c.lines.out) (g.K.Sink.calls c.args.out.now) (g.K.Sink.calls c.lines.out) s.4 s.3

pub returns-clause-ok : goal.returns-clause-ok
returns-clause-ok g c = λ p buffer q at.
    let s = c.lines.invariant.so_far p buffer q at in
    let plain = c.in_default.ensures.none refl in
    let said_is : s.2 ≡ told p buffer q c.args.piece.now = sym (append-nil s.2) ∙ ap (λ t. s.2 ++ t) (sym (told_plain p buffer s.0 c.lines.rest.now plain)) ∙ sym s.4 in (
      subst (IsAt p buffer c.keep-2.new.self) (sym (s.5 ∙ after_plain p buffer s.0 c.lines.rest.now plain s.1.short)) (c.in-Ok-keep.ensures.longer p buffer s.0 s.1),
      subst (λ t. IsPut t (g.K.Sink.contents c.args.out.now) (g.K.Sink.contents c.lines.out) (g.K.Sink.calls c.args.out.now) (g.K.Sink.calls c.lines.out)) said_is s.3,
    )
