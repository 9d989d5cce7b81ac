use Rattle.gql_sdl.proofs.NodeCounts.{place_count}
use Rattle.gql_sdl.proofs.laws.place_count.Goals as goal

pub returns : goal.returns
returns c = λ file text p d. place_count file text p d
