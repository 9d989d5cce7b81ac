use Rattle.gql_lex.proofs.LongestToken.{longest_token}
use Rattle.gql_lex.proofs.laws.longest_token.Goals as goal

pub returns : goal.returns
returns c = longest_token
