use Rattle.std.proofs.Common.{◌≡◌, ◌-◌, ◌≤◌, length, drop}
use Rattle.gql_lex.specs.Sources.{lex_from}
use Rattle.gql_lex.proofs.lexer.Lexer.next.Given as goal

abbrev pub invariant-ignored : goal.invariant-ignored
invariant-ignored l = record {
  text : l.self-inside.text.now ≡ l.bytes;
  ahead : l.fn.self ≡ lex_from l.at (drop l.at l.bytes);
  within : l.at ≤ length l.bytes;
}

abbrev pub decreases-ignored : goal.decreases-ignored
decreases-ignored l = length l.bytes - l.at
