use Rattle.gql_syntax.specs.Nexts.{token_count}
use Rattle.gql_sdl.specs.Schemas.{NotEmpty}
use Rattle.gql_sdl.proofs.ListReads.{locations_separated, locations_laws}
use Rattle.gql_sdl.proofs.Separated.{Listed}
use Rattle.gql_sdl.proofs.lists.read_led_locations.Given as goal

abbrev pub invariant-locations : goal.invariant-locations
invariant-locations l = record {
  reads : Listed locations_separated locations_laws l.fn.cursor l.cursor l.locations;
  some : NotEmpty l.locations;
}

abbrev pub decreases-locations : goal.decreases-locations
decreases-locations l = token_count l.cursor.source
