use Rattle.std.proofs.Common.{ap, ◌∙◌, arith}
use Rattle.std.proofs.lemmas.List.{take_rest}
use Rattle.gql_lex.specs.Values.{run_before, stops_block}
use Rattle.gql_lex.proofs.Blocks.{raw_end_at}
use Rattle.gql_lex.proofs.block_values.raw_end.Goals as goal

pub overflow_add-result : goal.overflow_add-result
overflow_add-result c =
    let n = c.raw_len.ensures ∙ ap (λ bs. run_before stops_block bs) (take_rest c.args.bytes.now c.args.at) in
    let p = raw_end_at c.args.bytes.now c.args.at c.raw_len.result n c.requires.rest in
    omega (arith, p.0)

pub returns : goal.returns
returns c =
    let n = c.raw_len.ensures ∙ ap (λ bs. run_before stops_block bs) (take_rest c.args.bytes.now c.args.at) in
    let p = raw_end_at c.args.bytes.now c.args.at c.raw_len.result n c.requires.rest in
    record { within = (omega arith, p.0); rest = p.1; stops = p.3; ascii = p.4; value = p.2 }
