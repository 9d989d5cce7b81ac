use Rattle.gql_lex.proofs.Gaps.{describes}
use Rattle.gql_lex.proofs.lexer.Lexer.new.Goals as goal

pub returns-clause-describes : goal.returns-clause-describes
returns-clause-describes c = describes c.args.text.now c.utf8.text
