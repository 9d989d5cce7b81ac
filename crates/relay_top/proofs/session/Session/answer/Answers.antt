use Rattle.std.proofs.Common.{◌≡◌, ◌+◌, ◌||◌, ℕ, length, Option, subst, ap, ◌∙◌, arith}
use Rattle.relay_engine.specs.Steps.{IsStep}
use Rattle.relay_forms.specs.Artifacts.{text_of_lines}
use Rattle.relay_forms.specs.Puts.{IsPut, IsPutInPart}
use Rattle.relay_forms.specs.Progress.{step_of}
use Rattle.relay_forms.specs.relay_machine.Machine.{step}
use Rattle.relay_forms.specs.declared.put.Stop.TheVariants.{WriteFault}
use Rattle.plan_ir.specs.schema_tables.Types.{Text}
use Rattle.relay_forms.proofs.PutLaws.{lines_end, part_of}
use Rattle.relay_top.proofs.Written.{as_written}
use Rattle.relay_top.proofs.session.Session.answer.Goals as goal

pub returns-in-Err-clause-err : goal.returns-in-Err-clause-err
returns-in-Err-clause-err g c = λ p buffer q at.
    let P : ℕ → ℕ → Text → Type 0 = λ b n l. IsStep p (step p b q.state n l) c.in-Ok.lines c.step.new.self in
    let of_line : P buffer q.number q.part =
    subst (λ l. P buffer q.number l) (c.deref.ensures.value ∙ at.part) (subst (λ n. P buffer n c.deref.result.now) at.number (subst (λ b. P b c.args.self.now.n c.deref.result.now) at.buffer_is (c.in-Ok.ensures.step p q.state at.stands))) in
    let w = c.in-Err.ensures.err in
    subst (λ t. IsPutInPart t (c.in-Err.stop ≡ WriteFault) (g.K.Sink.contents c.args.out.now) (g.K.Sink.contents c.put_lines.new.out) (g.K.Sink.calls c.args.out.now) (g.K.Sink.calls c.put_lines.new.out))
    (ap text_of_lines c.deref-2.ensures.value ∙ as_written c.in-Ok.lines.texts.items ∙ of_line.text)
    (part_of c.in-Err.stop (text_of_lines c.deref-2.result.now) (g.K.Sink.contents c.args.out.now) (g.K.Sink.contents c.put_lines.new.out) (g.K.Sink.calls c.args.out.now) (g.K.Sink.calls c.put_lines.new.out) w.0 w.1 w.2 w.3 w.4)

pub returns-clause-ok : goal.returns-clause-ok
returns-clause-ok g c = λ p buffer q at.
    let P : ℕ → ℕ → Text → Type 0 = λ b n l. IsStep p (step p b q.state n l) c.in-Ok.lines c.step.new.self in
    let of_line : P buffer q.number q.part =
    subst (λ l. P buffer q.number l) (c.deref.ensures.value ∙ at.part) (subst (λ n. P buffer n c.deref.result.now) at.number (subst (λ b. P b c.args.self.now.n c.deref.result.now) at.buffer_is (c.in-Ok.ensures.step p q.state at.stands))) in (
      record {
        stands = of_line.stands;
        buffer_is = c.step.ensures.buffer ∙ at.buffer_is;
        number = ap (λ n. n + 1) at.number;
        part = c.clear.ensures.items;
        refused = ap (λ r. r || c.in-Ok.lines.refused) at.refused ∙ ap (λ r. q.refused || r) of_line.refused;
        short = omega arith;
      },
      subst (λ t. IsPut t (g.K.Sink.contents c.args.out.now) (g.K.Sink.contents c.put_lines.new.out) (g.K.Sink.calls c.args.out.now) (g.K.Sink.calls c.put_lines.new.out))
          (ap text_of_lines c.deref-2.ensures.value ∙ as_written c.in-Ok.lines.texts.items ∙ of_line.text)
          (record { adds = c.in_default-put_lines.ensures.ok.0; calls = c.in_default-put_lines.ensures.ok.1; ends = lines_end c.deref-2.result.now }),
    )
