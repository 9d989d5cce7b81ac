use Rattle.std.proofs.Common.{ap, ◌∙◌, arith}
use Rattle.std.proofs.lemmas.List.{take_rest}
use Rattle.gql_lex.specs.Lines.{end_len}
use Rattle.gql_lex.proofs.Breaks.{next_at}
use Rattle.gql_lex.proofs.lines.next_line.Goals as goal

pub returns-clause-within : goal.returns-clause-within
returns-clause-within c =
    let n = c.end_len.ensures ∙ ap (λ bs. end_len bs) (take_rest c.args.bytes.now c.args.end) in
    let p = next_at c.args.bytes.now c.args.end c.end_len.result n c.requires.within c.requires.stops in
    (omega (arith, p.some), p.within)

pub returns-clause-ascii : goal.returns-clause-ascii
returns-clause-ascii c =
    let n = c.end_len.ensures ∙ ap (λ bs. end_len bs) (take_rest c.args.bytes.now c.args.end) in
    (next_at c.args.bytes.now c.args.end c.end_len.result n c.requires.within c.requires.stops).last
