use Rattle.std.proofs.Common.{◌≡◌, true, false, drop, arith, sym, ◌∙◌}
use Rattle.std.proofs.lemmas.List.{take_rest}
use Rattle.gql_lex.specs.Values.{stops_block}
use Rattle.gql_lex.proofs.Runs.{run_more, run_stop, run_all}
use Rattle.gql_lex.proofs.block_values.raw_len.Goals as goal

pub raw-preserved : goal.raw-preserved
raw-preserved c =
    let e : stops_block (drop c.raw.len c.args.bytes.now) ≡ false = rw take_rest at (sym c.stops_block.ensures ∙ c.if-stops_block.false) in
    run_more stops_block c.args.bytes.now c.raw.len (omega arith) e c.raw.invariant

pub returns-then-stops_block : goal.returns-then-stops_block
returns-then-stops_block c =
    let e : stops_block (drop c.raw.len c.args.bytes.now) ≡ true = rw take_rest at (sym c.stops_block.ensures ∙ c.if-stops_block.true) in
    run_stop stops_block c.args.bytes.now c.raw.len (omega arith) e c.raw.invariant

pub returns : goal.returns
returns c = run_all stops_block c.args.bytes.now c.raw.len c.raw-test.false (omega arith) c.raw.invariant
