use Rattle.std.proofs.Common.{◌≡◌, ◌≢◌, length, arith}
use Rattle.store_conn.proofs.Puts.{counter_stays, counter_written}
use Rattle.store_conn.proofs.made.with_counter.Goals as goal

pub returns-then-is_empty : goal.returns-then-is_empty
returns-then-is_empty c = λ first new is.
    let made = c.args.made.now in
    let none : length made.edges.items ≡ 0 = grind (arith, c.is_empty.ensures, c.if-is_empty.true, made.edges.ok.0) in
    counter_stays first new made c.args.row is none

pub returns : goal.returns
returns c = λ first new is.
    let made = c.args.made.now in
    let some : length made.edges.items ≢ 0 = grind (arith, c.is_empty.ensures, c.if-is_empty.false, made.edges.ok.0) in
    counter_written first new made c.args.row _ is some c.in_ok-put_counter.ensures
