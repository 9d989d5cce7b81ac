use Rattle.std.proofs.Common.{◌≡◌, false}
use Rattle.gql_syntax.specs.Nexts.{next_is, token_count}
use Rattle.gql_syntax.specs.Enclosed.{Opened}
use Rattle.gql_syntax.proofs.enclosed.read_members.Given as goal

abbrev pub invariant-members : goal.invariant-members
invariant-members g l = record {
  reads : Opened l.opening l.closing (goal.F-post g l.read l.alloc) l.fn.cursor l.cursor l.members.items;
  unclosed : next_is l.closing l.cursor.source ≡ false;
}

abbrev pub decreases-members : goal.decreases-members
decreases-members g l = token_count l.cursor.source
