use Rattle.line_engine.proofs.OneLines.{event_one}
use Rattle.line_engine.proofs.answers.accept.Goals as goal

pub one_line-requires : goal.one_line-requires
one_line-requires c = event_one c.args.event.now c.args.n c.in_ok-text.text c.in_ok-text.ensures
