use Rattle.std.proofs.Common.{◌-◌, length, take, drop, ◌∙◌}
use Rattle.std.proofs.lemmas.List.{take_all, take_rest}
use Rattle.gql_lex.proofs.Margins.{unindented_is}
use Rattle.gql_lex.proofs.indents.unindent.Goals as goal

pub returns : goal.returns
returns c =
    let t = take_all c.loop-line.line-index (take (length c.args.lines.now - 1) (drop 1 c.args.lines.now)) c.loop-line-test.false in
    let r = take_rest c.args.lines.now 1 in
    rw (t, c.common_indent-common.ensures, r) at c.loop-line.invariant ∙ unindented_is c.args.lines.now c.requires
