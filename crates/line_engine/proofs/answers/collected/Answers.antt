use Rattle.line_engine.proofs.OneLines.{collect_one}
use Rattle.line_engine.proofs.answers.collected.Goals as goal

pub one_line-requires : goal.one_line-requires
one_line-requires c = collect_one c.args.n c.args.dropped c.in_ok-text.text c.in_ok-text.ensures
