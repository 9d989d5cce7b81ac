use Rattle.std.proofs.lemmas.List.{take_rest}
use Rattle.gql_lex.proofs.Margins.{trims}
use Rattle.gql_lex.proofs.indents.join_filled.Goals as goal

pub returns : goal.returns
returns c =
    let r = take_rest c.args.lines.now c.blank_start.result in
    let j = rw r at c.join_lines.ensures in
    let e = rw r at c.filled_len.ensures.is in
    let t = trims c.args.lines.now c.blank_start.result c.filled_len.result c.blank_start.ensures.is e in
    rw (← t) j
