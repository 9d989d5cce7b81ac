use Rattle.gql_sdl.proofs.SchemaReads.{one-schema}
use Rattle.gql_sdl.proofs.laws.one_tree.Goals as goal

pub returns : goal.returns
returns c = λ file text p q s z. one-schema file text p q s z
