use Rattle.std.proofs.Common.{◌≡◌, ◌+◌, drop}
use Rattle.gql_lex.specs.Values.{run_before, stops_block}
use Rattle.gql_lex.proofs.block_values.raw_len.Given as goal

abbrev pub invariant-raw : goal.invariant-raw
invariant-raw l = run_before stops_block l.bytes ≡ l.len + run_before stops_block (drop l.len l.bytes)
