use Rattle.std.proofs.Common.{◌≡◌, true, false, drop, arith, sym, ◌∙◌}
use Rattle.std.proofs.lemmas.List.{take_rest}
use Rattle.gql_lex.specs.Values.{stops_text}
use Rattle.gql_lex.proofs.Runs.{run_more, run_stop, run_all}
use Rattle.gql_lex.proofs.text_values.plain_len.Goals as goal

pub plain-preserved : goal.plain-preserved
plain-preserved c =
    let e : stops_text (drop c.plain.len c.args.bytes.now) ≡ false = rw take_rest at (sym c.stops_text.ensures ∙ c.if-stops_text.false) in
    run_more stops_text c.args.bytes.now c.plain.len (omega arith) e c.plain.invariant

pub returns-then-stops_text : goal.returns-then-stops_text
returns-then-stops_text c =
    let e : stops_text (drop c.plain.len c.args.bytes.now) ≡ true = rw take_rest at (sym c.stops_text.ensures ∙ c.if-stops_text.true) in
    run_stop stops_text c.args.bytes.now c.plain.len (omega arith) e c.plain.invariant

pub returns : goal.returns
returns c = run_all stops_text c.args.bytes.now c.plain.len c.plain-test.false (omega arith) c.plain.invariant
