use Rattle.gql_syntax.specs.Nexts.{token_count}
use Rattle.gql_sdl.specs.Schemas.{NotEmpty}
use Rattle.gql_sdl.proofs.ListReads.{names_separated, names_laws}
use Rattle.gql_sdl.proofs.Separated.{Listed}
use Rattle.gql_sdl.proofs.lists.read_led_names.Given as goal

abbrev pub invariant-names : goal.invariant-names
invariant-names l = record {
  reads : Listed (names_separated l.separator) (names_laws l.separator) l.fn.cursor l.cursor l.names;
  some : NotEmpty l.names;
}

abbrev pub decreases-names : goal.decreases-names
decreases-names l = token_count l.cursor.source
