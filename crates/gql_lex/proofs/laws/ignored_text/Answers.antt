use Rattle.gql_lex.proofs.IgnoredForms.{ignored_text}
use Rattle.gql_lex.proofs.laws.ignored_text.Goals as goal

pub returns : goal.returns
returns c = ignored_text
