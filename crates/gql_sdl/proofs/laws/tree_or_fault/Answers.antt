use Rattle.gql_sdl.specs.Schemas.{schemas, nodes_of}
use Rattle.gql_sdl.proofs.laws.tree_or_fault.Goals as goal
use Rattle.gql_syntax.proofs.OneFault.{no_parse_fault}

pub returns : goal.returns
returns c = λ file text p f t x. no_parse_fault schemas nodes_of file text t.written p.places f t.tree x
