use Rattle.std.proofs.Common.{◌≡◌, ◌==◌, [], length, subst, sym, ap, ◌∙◌}
use Rattle.std.proofs.lemmas.Bool.{eqb-true}
use Rattle.std.proofs.lemmas.List.{nil_from_length}
use Rattle.relay_forms.specs.Progress.{ended_part, told_of_part}
use Rattle.relay_forms.specs.Puts.{IsPut, IsPutInPart}
use Rattle.relay_forms.specs.declared.put.Stop.TheVariants.{WriteFault}
use Rattle.plan_ir.specs.schema_tables.Types.{Text}
use Rattle.relay_forms.proofs.ProgressLaws.{ended_some, told_some}
use Rattle.relay_forms.proofs.PutLaws.{put_nothing}
use Rattle.relay_top.specs.Sessions.{IsAt}
use Rattle.relay_top.proofs.session.Session.answer_last.Goals as goal

pub returns-then-is_empty-clause-ok : goal.returns-then-is_empty-clause-ok
returns-then-is_empty-clause-ok g c = λ p buffer q at.
    let none : q.part ≡ [] = sym at.part ∙ nil_from_length c.args.self.now.part.items (sym c.args.self.now.part.ok.0 ∙ eqb-true _ 0 (sym c.is_empty.ensures ∙ c.if-is_empty.true)) in (
      subst (λ part. IsAt p buffer c.args.self.now (ended_part p buffer q part)) (sym none) at,
      subst (λ part. IsPut (told_of_part p buffer q part) (g.K.Sink.contents c.args.out.now) (g.K.Sink.contents c.args.out.now) (g.K.Sink.calls c.args.out.now) (g.K.Sink.calls c.args.out.now)) (sym none)
          (put_nothing (g.K.Sink.contents c.args.out.now) (g.K.Sink.calls c.args.out.now)),
    )

pub returns-in-Ok-clause-ok : goal.returns-in-Ok-clause-ok
returns-in-Ok-clause-ok g c = λ p buffer q at.
    let some = ap (λ n. n == 0) (ap length (sym at.part) ∙ sym c.args.self.now.part.ok.0) ∙ sym c.is_empty.ensures ∙ c.if-is_empty.false in
    let w = c.in-Ok.ensures.ok p buffer q at in (
      subst (IsAt p buffer c.answer.new.self) (ended_some p buffer q q.part some) w.0,
      subst (λ t. IsPut t (g.K.Sink.contents c.args.out.now) (g.K.Sink.contents c.answer.new.out) (g.K.Sink.calls c.args.out.now) (g.K.Sink.calls c.answer.new.out)) (told_some p buffer q q.part some) w.1,
    )

pub returns-in-Err-clause-err : goal.returns-in-Err-clause-err
returns-in-Err-clause-err g c = λ p buffer q at.
    let some = ap (λ n. n == 0) (ap length (sym at.part) ∙ sym c.args.self.now.part.ok.0) ∙ sym c.is_empty.ensures ∙ c.if-is_empty.false in
    subst (λ t. IsPutInPart t (c.in-Err.stop ≡ WriteFault) (g.K.Sink.contents c.args.out.now) (g.K.Sink.contents c.answer.new.out) (g.K.Sink.calls c.args.out.now) (g.K.Sink.calls c.answer.new.out))
    (told_some p buffer q q.part some) (c.in-Err.ensures.err p buffer q at)
