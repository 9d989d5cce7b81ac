use Rattle.std.proofs.Common.{◌≡◌, ◌+◌, ◌*◌, false}
use Rattle.gql_syntax.specs.Nexts.{next_is, token_count}
use Rattle.gql_parse.proofs.Members.{Selections}
use Rattle.gql_parse.proofs.selections.+selections.Given as goal

abbrev pub decreases-read_set : goal.decreases-read_set
decreases-read_set l = 8 * l.room

abbrev pub decreases-read_optional_set : goal.decreases-read_optional_set
decreases-read_optional_set l = 8 * l.room + 1

abbrev pub decreases-read_inline : goal.decreases-read_inline
decreases-read_inline l = 8 * l.room + 1

abbrev pub decreases-read_spread : goal.decreases-read_spread
decreases-read_spread l = 8 * l.room + 2

abbrev pub decreases-read_field : goal.decreases-read_field
decreases-read_field l = 8 * l.room + 2

abbrev pub decreases-read_selection : goal.decreases-read_selection
decreases-read_selection l = 8 * l.room + 3

abbrev pub decreases-read_selections : goal.decreases-read_selections
decreases-read_selections l = 8 * l.room + 4

abbrev pub invariant-read_selections-selections : goal.invariant-read_selections-selections
invariant-read_selections-selections l = record {
  reads : Selections l.room l.fn.cursor l.cursor l.selections;
  unclosed : next_is 125 l.cursor.source ≡ false;
}

abbrev pub decreases-read_selections-selections : goal.decreases-read_selections-selections
decreases-read_selections-selections l = token_count l.cursor.source
