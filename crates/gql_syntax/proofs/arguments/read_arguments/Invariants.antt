use Rattle.std.proofs.Common.{◌≡◌, ◌≤◌, ℕ, [], List, length}
use Rattle.gql_ast.specs.Value.{members_of}
use Rattle.gql_syntax.specs.Answers.{node_count}
use Rattle.gql_syntax.specs.Nexts.{token_count}
use Rattle.gql_syntax.specs.Places.{lay}
use Rattle.gql_syntax.specs.Spelling.{spell_members}
use Rattle.gql_syntax.specs.Steps.{argument_next}
use Rattle.gql_syntax.proofs.arguments.read_arguments.Given as goal

abbrev pub invariant-arguments : goal.invariant-arguments
invariant-arguments l = record {
  reads : argument_next (length l.fn.cursor.text) l.constant [] l.fn.cursor.source ≡ argument_next (length l.fn.cursor.text) l.constant l.arguments l.cursor.source;
  places : (ns : List ℕ) → lay (spell_members node_count (members_of l.arguments) 0 ns) l.fn.cursor ≡ lay ns l.cursor;
  same : l.cursor.text ≡ l.fn.cursor.text;
  fewer : token_count l.cursor.source ≤ token_count l.fn.cursor.source;
}

abbrev pub decreases-arguments : goal.decreases-arguments
decreases-arguments l = token_count l.cursor.source
