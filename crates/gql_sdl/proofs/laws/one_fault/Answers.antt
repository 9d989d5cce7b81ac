use Rattle.gql_sdl.specs.Schemas.{schemas}
use Rattle.gql_sdl.proofs.laws.one_fault.Goals as goal
use Rattle.gql_syntax.proofs.Judging.{one_fault}

pub returns : goal.returns
returns c = λ file text f g x y. one_fault schemas file text f g x y
