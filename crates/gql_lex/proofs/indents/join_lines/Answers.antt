use Rattle.gql_lex.proofs.Margins.{join_more}
use Rattle.gql_lex.proofs.indents.join_lines.Goals as goal

pub loop-at-preserved : goal.loop-at-preserved
loop-at-preserved c = join_more c.args.lines.now c.loop-at.at _ _ _ c.loop-at-test.true c.loop-at.invariant c.in_ok-push_line.ensures
