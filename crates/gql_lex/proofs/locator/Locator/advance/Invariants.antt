use Rattle.gql_lex.proofs.Counting.{IsOnLine}
use Rattle.gql_lex.proofs.locator.Locator.advance.Given as goal

abbrev pub invariant-ends : goal.invariant-ends
invariant-ends l = IsOnLine l.text l.i l.line l.column l.start
