use Rattle.std.proofs.Common.{◌≡◌, ◌+◌, drop}
use Rattle.gql_lex.specs.Values.{run_before, stops_text}
use Rattle.gql_lex.proofs.text_values.plain_len.Given as goal

abbrev pub invariant-plain : goal.invariant-plain
invariant-plain l = run_before stops_text l.bytes ≡ l.len + run_before stops_text (drop l.len l.bytes)
