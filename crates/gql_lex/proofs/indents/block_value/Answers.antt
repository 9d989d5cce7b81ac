use Rattle.gql_lex.specs.Values.{block_value}
use Rattle.gql_lex.proofs.Margins.{some_of}
use Rattle.gql_lex.proofs.indents.block_value.Goals as goal

pub unindent-requires : goal.unindent-requires
unindent-requires c = rw c.deref.ensures.value (some_of c.in_ok-lines.lines.items c.args.raw.now c.in_ok-lines.ensures)

pub returns : goal.returns
unfolding block_value
returns c =
    let j = rw c.deref-2.ensures.value at c.join_filled.ensures in
    let k = rw c.deref.ensures.value at c.in_ok-kept.ensures in
    rw (← c.in_ok-lines.ensures, ← k) j
