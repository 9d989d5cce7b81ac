use Rattle.gql_syntax.specs.Nexts.{token_count}
use Rattle.gql_parse.proofs.SoFar.{SoFar}
use Rattle.gql_parse.proofs.read_definitions.Given as goal

abbrev pub invariant-definitions : goal.invariant-definitions
invariant-definitions l = record {
  reads : SoFar l.fn.cursor l.cursor l.definitions;
}

abbrev pub decreases-definitions : goal.decreases-definitions
decreases-definitions l = token_count l.cursor.source
