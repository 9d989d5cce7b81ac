use Rattle.std.proofs.Common.{◌≡◌, ◌++◌, ◌-◌, ◌≤◌, length, drop, IsCharBoundary}
use Rattle.gql_lex.specs.Lines.{lines, texts}
use Rattle.gql_lex.proofs.lines.lines_of.Given as goal

abbrev pub invariant-lines : goal.invariant-lines
invariant-lines l = record {
  whole : lines l.bytes ≡ texts l.lines.items ++ lines (drop l.at l.bytes);
  boundary : IsCharBoundary l.bytes l.at;
  within : l.at ≤ length l.bytes;
}

abbrev pub decreases-lines : goal.decreases-lines
decreases-lines l = length l.bytes - l.at
