use Rattle.relay_forms.proofs.PutLaws.{all_of}
use Rattle.relay_forms.specs.Progress.{told_at_end}
use Rattle.relay_top.proofs.session.Session.finish.Goals as goal

pub returns-in-Ok-clause-put : goal.returns-in-Ok-clause-put
returns-in-Ok-clause-put g c = λ p buffer q at.
    let w = all_of (told_at_end p buffer q) _ (g.K.Sink.contents c.args.out.now) (g.K.Sink.contents c.answer_last.new.out) (g.K.Sink.calls c.args.out.now) (g.K.Sink.calls c.answer_last.new.out) (c.in-Ok.ensures.ok p buffer q at).1 in
    (w.0, λ _. w.1)
