use Rattle.gql_parse.specs.Documents.{documents}
use Rattle.gql_parse.proofs.laws.one_fault.Goals as goal
use Rattle.gql_syntax.proofs.Judging.{one_fault}

pub returns : goal.returns
returns c = λ file text f g x y. one_fault documents file text f g x y
