use Rattle.std.proofs.Common.{◌≡◌, ◌≤◌, length, drop}
use Rattle.gql_lex.specs.Lines.{texts}
use Rattle.gql_lex.specs.Values.{least_indent}
use Rattle.gql_lex.proofs.indents.common_indent.Given as goal

abbrev pub invariant-lines : goal.invariant-lines
invariant-lines l = record {
  within : l.at ≤ length l.lines;
  most : l.most ≡ least_indent (texts (drop l.at l.lines));
}

abbrev pub decreases-lines : goal.decreases-lines
decreases-lines l = l.at
