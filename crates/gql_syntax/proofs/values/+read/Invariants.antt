use Rattle.std.proofs.Common.{◌≡◌, ◌≤◌, ◌+◌, ◌*◌, ℕ, List, length}
use Rattle.gql_ast.specs.Value.{vals_of, members_of, no_vals, no_members}
use Rattle.gql_syntax.specs.Answers.{node_count}
use Rattle.gql_syntax.specs.Machine.{Place, items, members}
use Rattle.gql_syntax.specs.Nexts.{token_count}
use Rattle.gql_syntax.specs.Parts.{One, goes}
use Rattle.gql_syntax.specs.Places.{lay}
use Rattle.gql_syntax.specs.Spelling.{spell_values, spell_members}
use Rattle.gql_syntax.specs.Steps.{value_on}
use Rattle.gql_syntax.proofs.values.+read.Given as goal

abbrev pub decreases-read : goal.decreases-read
decreases-read l = 5 * l.room + 1

abbrev pub decreases-read_field : goal.decreases-read_field
decreases-read_field l = 5 * l.room + 2

abbrev pub decreases-read_fields : goal.decreases-read_fields
decreases-read_fields l = 5 * l.room + 3

abbrev pub decreases-read_items : goal.decreases-read_items
decreases-read_items l = 5 * l.room + 2

abbrev pub decreases-read_punctuated : goal.decreases-read_punctuated
decreases-read_punctuated l = 5 * l.room

abbrev pub invariant-read_fields-fields : goal.invariant-read_fields-fields
invariant-read_fields-fields l = record {
  reads : (p : Place One) → value_on (length l.fn.cursor.text) (goes (members l.constant l.room no_members p)) l.fn.cursor.source ≡ value_on (length l.fn.cursor.text) (goes (members l.constant l.room (members_of l.fields) p)) l.cursor.source;
  places : (around : ℕ) (ns : List ℕ) → lay (spell_members node_count (members_of l.fields) around ns) l.fn.cursor ≡ lay ns l.cursor;
  same : l.cursor.text ≡ l.fn.cursor.text;
  fewer : token_count l.cursor.source ≤ token_count l.fn.cursor.source;
}

abbrev pub decreases-read_fields-fields : goal.decreases-read_fields-fields
decreases-read_fields-fields l = token_count l.cursor.source

abbrev pub invariant-read_items-items : goal.invariant-read_items-items
invariant-read_items-items l = record {
  reads : (p : Place One) → value_on (length l.fn.cursor.text) (goes (items l.constant l.room no_vals p)) l.fn.cursor.source ≡ value_on (length l.fn.cursor.text) (goes (items l.constant l.room (vals_of l.values) p)) l.cursor.source;
  places : (around : ℕ) (ns : List ℕ) → lay (spell_values node_count (vals_of l.values) around ns) l.fn.cursor ≡ lay ns l.cursor;
  same : l.cursor.text ≡ l.fn.cursor.text;
  fewer : token_count l.cursor.source ≤ token_count l.fn.cursor.source;
}

abbrev pub decreases-read_items-items : goal.decreases-read_items-items
decreases-read_items-items l = token_count l.cursor.source
