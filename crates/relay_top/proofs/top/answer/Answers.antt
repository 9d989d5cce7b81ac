use Rattle.std.proofs.Common.{refl, subst, sym}
use Rattle.relay_forms.specs.relay_io.Causes.{Rose}
use Rattle.relay_top.specs.Answers.{IsAnswered}
use Rattle.relay_forms.specs.FormShown.{asked_shown}
use Rattle.relay_top.proofs.top.answer.Goals as goal

pub returns-in-OnFiles-clause-ran : goal.returns-in-OnFiles-clause-ran
returns-in-OnFiles-clause-ran g c =
    subst (λ asked. IsAnswered (g.V.Vault.files c.args.vault.now) (asked_shown asked) c.answer_form.result (Rose (g.V.Vault.faults c.args.vault.now) (g.V.Vault.faults c.answer_form.new.vault))
    (Rose (g.S.Source.faults c.args.script.now) (g.S.Source.faults c.answer_form.new.script)) (Rose (g.K.Sink.faults c.args.out.now) (g.K.Sink.faults c.answer_form.new.out))
    (g.V.Vault.calls c.args.vault.now) (g.V.Vault.calls c.answer_form.new.vault)
    (g.S.Source.left c.args.script.now) (g.S.Source.left c.answer_form.new.script) (g.S.Source.calls c.args.script.now) (g.S.Source.calls c.answer_form.new.script)
    (g.K.Sink.contents c.args.out.now) (g.K.Sink.contents c.answer_form.new.out) (g.K.Sink.calls c.args.out.now) (g.K.Sink.calls c.answer_form.new.out))
    (sym c.in-OnFiles.is) (c.answer_form.ensures.ran, c.answer_form.ensures.vault_calls)

pub returns-in-Bulk-clause-ran : goal.returns-in-Bulk-clause-ran
returns-in-Bulk-clause-ran g c =
    subst (λ asked. IsAnswered (g.V.Vault.files c.args.vault.now) (asked_shown asked) c.put_summary.result (Rose (g.V.Vault.faults c.args.vault.now) (g.V.Vault.faults c.args.vault.now))
    (Rose (g.S.Source.faults c.args.script.now) (g.S.Source.faults c.args.script.now)) (Rose (g.K.Sink.faults c.args.out.now) (g.K.Sink.faults c.put_summary.new.out))
    (g.V.Vault.calls c.args.vault.now) (g.V.Vault.calls c.args.vault.now)
    (g.S.Source.left c.args.script.now) (g.S.Source.left c.args.script.now) (g.S.Source.calls c.args.script.now) (g.S.Source.calls c.args.script.now)
    (g.K.Sink.contents c.args.out.now) (g.K.Sink.contents c.put_summary.new.out) (g.K.Sink.calls c.args.out.now) (g.K.Sink.calls c.put_summary.new.out))
    (sym c.in-Bulk.is)
    (record { answers = c.put_summary.ensures.answers; wrote = c.put_summary.ensures.wrote; unread = (refl, refl); unopened = refl })
