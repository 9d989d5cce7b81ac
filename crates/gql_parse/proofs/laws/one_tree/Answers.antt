use Rattle.gql_parse.proofs.Whole.{one_document}
use Rattle.gql_parse.proofs.laws.one_tree.Goals as goal

pub returns : goal.returns
returns c = λ file text p q s z. one_document file text p q s z
