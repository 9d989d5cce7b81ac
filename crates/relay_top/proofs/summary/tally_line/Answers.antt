use Rattle.std.proofs.Common.{◌≡◌, ◌+◌, ℕ, Bool, true, false, length, cond, refl, ap, subst, ◌∙◌, arith}
use Rattle.std.specs.Int.{from_bool}
use Rattle.relay_engine.specs.Steps.{IsStep}
use Rattle.relay_forms.specs.Artifacts.{text_of_lines}
use Rattle.relay_forms.specs.relay_machine.Bulk.{line_count}
use Rattle.relay_forms.specs.relay_machine.Machine.{step}
use Rattle.relay_top.proofs.Written.{as_written}
use Rattle.relay_top.proofs.summary.tally_line.Goals as goal

as_number : (b : Bool) → from_bool b ≡ cond b 1 0
as_number true = refl
as_number false = refl

pub returns : goal.returns
returns c = λ p buffer s same stands.
    let P : ℕ → Type 0 = λ b. IsStep p (step p b s c.args.n c.args.line.now) c.in_ok-lines.lines c.step.new.self in
    let is = subst P same (c.in_ok-lines.ensures.step p s stands) in
    let text : c.in_ok-written.written.items ≡ (step p buffer s c.args.n c.args.line.now).text = c.in_ok-written.ensures ∙ ap text_of_lines c.deref.ensures.value ∙ as_written c.in_ok-lines.lines.texts.items ∙ is.text in
    let long : c.in_ok-bytes.bytes ≡ c.args.tally.bytes + length c.in_ok-written.written.items = omega (arith, c.in_ok-bytes.ensures, c.len.ensures, c.in_ok-written.written.ok.0) in
    let ended : c.in_ok-ended.ended ≡ c.args.tally.lines + line_count c.in_ok-written.written.items = c.in_ok-ended.ensures ∙ ap (λ n. c.args.tally.lines + n) (c.line_count.ensures ∙ ap line_count c.deref-2.ensures.value) in
    let refused : c.in_ok-refused.refused ≡ c.args.tally.refused + cond c.in_ok-lines.lines.refused 1 0 = c.in_ok-refused.ensures ∙ ap (λ n. c.args.tally.refused + n) (as_number c.in_ok-lines.lines.refused) in (
      c.in_ok-lines.ensures.buffer ∙ same,
      is.stands,
      long ∙ ap (λ t. c.args.tally.bytes + length t) text,
      ended ∙ ap (λ t. c.args.tally.lines + line_count t) text,
      refused ∙ ap (λ (b : Bool). c.args.tally.refused + cond b 1 0) is.refused,
    )
