use Rattle.std.proofs.Common.{◌≡◌, ◌+◌, Ok, arith, Result, ℕ}
use Rattle.std.proofs.lemmas.Grind.{common_steps}
use Rattle.gql_lex.proofs.Skips.{block_none, further_err}
use Rattle.gql_lex.proofs.Extents.{block_end-within}
use Rattle.gql_lex.specs.Strings.{block_end}
use Rattle.gql_lex.proofs.strings.block_end.Goals as goal

pub returns-clause-is : goal.returns-clause-is
returns-clause-is c = further_err _ _ _ _ c.block.invariant (block_none _ _ c.block-test.false)

pub returns-in-None-clause-within : goal.returns-in-None-clause-within
returns-in-None-clause-within c =
    let r : Result ℕ ℕ = Ok (c.block.at + 3) in
    let e : r ≡ block_end 0 c.args.bytes.now = grind (arith, common_steps) in
    rw (← e) at (block_end-within 0 c.args.bytes.now)
