use Rattle.gql_lex.proofs.Skips.{text_none, further_err}
use Rattle.gql_lex.proofs.strings.text_end.Goals as goal

pub returns-clause-is : goal.returns-clause-is
returns-clause-is c = further_err _ _ _ _ c.text.invariant (text_none _ _ c.text-test.false)
