use Rattle.std.proofs.Common.{◌≡◌, ◌≤◌, ℕ, [], List, length}
use Rattle.gql_syntax.specs.Answers.{node_count}
use Rattle.gql_syntax.specs.Machine.{further}
use Rattle.gql_syntax.specs.Nexts.{token_count}
use Rattle.gql_syntax.specs.Parts.{goes}
use Rattle.gql_syntax.specs.Places.{lay}
use Rattle.gql_syntax.specs.Spelling.{spell_directives}
use Rattle.gql_syntax.specs.Steps.{directives_on}
use Rattle.gql_syntax.proofs.directives.read_directives.Given as goal

abbrev pub invariant-directives : goal.invariant-directives
invariant-directives l = record {
  reads : directives_on (length l.fn.cursor.text) (goes (further l.constant [] tt)) l.fn.cursor.source ≡ directives_on (length l.fn.cursor.text) (goes (further l.constant l.directives tt)) l.cursor.source;
  places : (ns : List ℕ) → lay (spell_directives node_count l.directives ns) l.fn.cursor ≡ lay ns l.cursor;
  same : l.cursor.text ≡ l.fn.cursor.text;
  fewer : token_count l.cursor.source ≤ token_count l.fn.cursor.source;
}

abbrev pub decreases-directives : goal.decreases-directives
decreases-directives l = token_count l.cursor.source
