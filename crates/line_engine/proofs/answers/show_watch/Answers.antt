use Rattle.std.proofs.Common.{codes}
use Rattle.plan_ir.specs.gql_plain.Tree.{text}
use Rattle.line_engine.proofs.OneLines.{shown_one}
use Rattle.line_engine.proofs.answers.show_watch.Goals as goal
use Rattle.store_watch.specs.store_read.Reading.{reading_of}

pub one_line-requires : goal.one_line-requires
one_line-requires c = shown_one c.args.n (codes "ok", text (codes "watch")) (reading_of c.args.snapshot.now) c.in_ok-text.text c.in_ok-text.ensures
