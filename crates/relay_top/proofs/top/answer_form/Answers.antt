use Rattle.std.proofs.Common.{subst, sym}
use Rattle.relay_forms.specs.relay_io.Causes.{Rose}
use Rattle.relay_top.specs.Answers.{IsCall}
use Rattle.relay_forms.specs.FormShown.{form_shown}
use Rattle.relay_top.proofs.top.answer_form.Goals as goal

pub returns-in-Run-clause-ran : goal.returns-in-Run-clause-ran
returns-in-Run-clause-ran g c =
    subst (λ form. IsCall (g.V.Vault.files c.args.vault.now) (form_shown form) c.run.result (Rose (g.V.Vault.faults c.args.vault.now) (g.V.Vault.faults c.run.new.vault))
    (Rose (g.S.Source.faults c.args.script.now) (g.S.Source.faults c.run.new.script)) (Rose (g.K.Sink.faults c.args.out.now) (g.K.Sink.faults c.run.new.out))
    (g.S.Source.left c.args.script.now) (g.S.Source.left c.run.new.script) (g.S.Source.calls c.args.script.now) (g.S.Source.calls c.run.new.script)
    (g.K.Sink.contents c.args.out.now) (g.K.Sink.contents c.run.new.out) (g.K.Sink.calls c.args.out.now) (g.K.Sink.calls c.run.new.out))
    (sym c.in-Run.is) c.run.ensures.ran

pub returns-in-Compile-clause-ran : goal.returns-in-Compile-clause-ran
returns-in-Compile-clause-ran g c =
    subst (λ form. IsCall (g.V.Vault.files c.args.vault.now) (form_shown form) c.compile.result (Rose (g.V.Vault.faults c.args.vault.now) (g.V.Vault.faults c.compile.new.vault))
    (Rose (g.S.Source.faults c.args.script.now) (g.S.Source.faults c.args.script.now)) (Rose (g.K.Sink.faults c.args.out.now) (g.K.Sink.faults c.compile.new.out))
    (g.S.Source.left c.args.script.now) (g.S.Source.left c.args.script.now) (g.S.Source.calls c.args.script.now) (g.S.Source.calls c.args.script.now)
    (g.K.Sink.contents c.args.out.now) (g.K.Sink.contents c.compile.new.out) (g.K.Sink.calls c.args.out.now) (g.K.Sink.calls c.compile.new.out))
    (sym c.in-Compile.is)
    (c.compile.ensures.ran (g.S.Source.left c.args.script.now) (g.S.Source.calls c.args.script.now) (g.S.Source.faults c.args.script.now) (g.S.Source.faults c.args.script.now))
