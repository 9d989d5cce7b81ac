use Rattle.std.proofs.Common.{map, refl}
use Rattle.relay_forms.specs.relay_io.Causes.{Rose}
use Rattle.relay_top.specs.Answers.{accepted}
use Rattle.relay_forms.specs.Projects.{project_shown}
use Rattle.relay_forms.specs.Words as forms
use Rattle.relay_top.proofs.Courses.{compiled_answers, ran_compiled}
use Rattle.relay_top.proofs.top.compile.Goals as goal

pub returns-in-Ok-clause-ran : goal.returns-in-Ok-clause-ran
returns-in-Ok-clause-ran g c = λ left reads misses misses_now.
    let documents = map (λ w. w.now) c.args.documents.now in
    let p = project_shown c.in-Ok.project in
    let sink = Rose (g.K.Sink.faults c.args.out.now) (g.K.Sink.faults c.put_artifacts.new.out) in (
      accepted p,
      c.in-Ok.ensures.project (forms.compile c.args.schema.now documents) refl,
      compiled_answers c.args.schema.now documents p c.put_artifacts.result sink c.put_artifacts.ensures.form,
      ran_compiled c.args.schema.now documents p c.put_artifacts.result sink c.put_artifacts.ensures.form left reads
          (g.K.Sink.contents c.args.out.now) (g.K.Sink.contents c.put_artifacts.new.out) (g.K.Sink.calls c.args.out.now) (g.K.Sink.calls c.put_artifacts.new.out) c.put_artifacts.ensures.added,
    )

pub returns-in-Err-clause-ran : goal.returns-in-Err-clause-ran
returns-in-Err-clause-ran g c = λ left reads misses misses_now.
    let form = forms.compile c.args.schema.now (map (λ w. w.now) c.args.documents.now) in
    c.answer_closed.ensures (g.V.Vault.files c.args.vault.now) form (g.V.Vault.faults c.args.vault.now) (g.V.Vault.faults c.open_project.new.vault)
    misses misses_now left reads refl (c.in-Err.ensures.closed form refl)
