use Rattle.std.proofs.Common.{map, refl}
use Rattle.relay_top.specs.Answers.{accepted}
use Rattle.relay_forms.specs.Projects.{project_shown}
use Rattle.relay_forms.specs.Words as forms
use Rattle.relay_top.proofs.top.run.Goals as goal

pub returns-in-Ok-clause-ran : goal.returns-in-Ok-clause-ran
returns-in-Ok-clause-ran g c =
    let documents = map (λ w. w.now) c.args.documents.now in (
      accepted (project_shown c.in-Ok.project),
      c.in-Ok.ensures.project (forms.run c.args.buffer c.args.schema.now documents) refl,
      c.run_project.ensures.answering c.args.schema.now documents,
      c.run_project.ensures.ran c.args.schema.now documents,
    )

pub returns-in-Err-clause-ran : goal.returns-in-Err-clause-ran
returns-in-Err-clause-ran g c =
    let form = forms.run c.args.buffer c.args.schema.now (map (λ w. w.now) c.args.documents.now) in
    c.answer_closed.ensures (g.V.Vault.files c.args.vault.now) form (g.V.Vault.faults c.args.vault.now) (g.V.Vault.faults c.open_project.new.vault)
    (g.S.Source.faults c.args.script.now) (g.S.Source.faults c.args.script.now) (g.S.Source.left c.args.script.now) (g.S.Source.calls c.args.script.now)
    refl (c.in-Err.ensures.closed form refl)
