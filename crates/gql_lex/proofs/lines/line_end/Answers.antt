use Rattle.std.proofs.Common.{ap, ◌∙◌, arith}
use Rattle.std.proofs.lemmas.List.{take_rest}
use Rattle.gql_lex.specs.Lines.{line_len}
use Rattle.gql_lex.proofs.Breaks.{end_at, last_at, more_at, stops_at, line_end_below}
use Rattle.gql_lex.proofs.lines.line_end.Goals as goal

pub overflow_add-result : goal.overflow_add-result
overflow_add-result c =
    let n = c.line_len.ensures ∙ ap (λ bs. line_len bs) (take_rest c.args.bytes.now c.args.at) in
    omega (arith, end_at c.args.bytes.now c.args.at c.line_len.result n c.requires)

pub returns : goal.returns
returns c =
    let n = c.line_len.ensures ∙ ap (λ bs. line_len bs) (take_rest c.args.bytes.now c.args.at) in
    record {
      within = (omega arith, end_at c.args.bytes.now c.args.at c.line_len.result n c.requires);
      last = λ w. last_at c.args.bytes.now c.args.at c.line_len.result n c.requires w;
      more = λ l. more_at c.args.bytes.now c.args.at c.line_len.result n l;
      stops = λ l. stops_at c.args.bytes.now c.args.at c.line_len.result n l;
      ascii = λ l. line_end_below _ (stops_at c.args.bytes.now c.args.at c.line_len.result n l);
    }
