use Rattle.gql_syntax.proofs.TypeAlone.{one_type}
use Rattle.gql_syntax.proofs.types.one_type.Goals as goal

pub returns : goal.returns
returns c = λ text t u i j. one_type text t u i j
