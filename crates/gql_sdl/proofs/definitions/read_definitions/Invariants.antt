use Rattle.gql_syntax.specs.Nexts.{token_count}
use Rattle.gql_sdl.specs.Schemas.{NotEmpty}
use Rattle.gql_sdl.proofs.DefinitionReads.{Definitions}
use Rattle.gql_sdl.proofs.definitions.read_definitions.Given as goal

abbrev pub invariant-definitions : goal.invariant-definitions
invariant-definitions l = record {
  reads : Definitions l.fn.cursor l.cursor l.definitions;
  some : NotEmpty l.definitions;
}

abbrev pub decreases-definitions : goal.decreases-definitions
decreases-definitions l = token_count l.cursor.source
