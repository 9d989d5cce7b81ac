use Rattle.line_engine.proofs.OneLines.{refusal_one}
use Rattle.line_engine.proofs.answers.refuse.Goals as goal
use Rattle.relay_lines.specs.RefusalShown.{refusal_shown}

pub one_line-requires : goal.one_line-requires
one_line-requires c = refusal_one c.args.n (refusal_shown c.args.why) c.in_ok-text.text c.in_ok-text.ensures
