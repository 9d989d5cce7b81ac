use Rattle.std.proofs.Common.{◌≡◌, ◌+◌, ◌≤◌, length, take}
use Rattle.std.specs.List.{suffix_len}
use Rattle.gql_lex.specs.Lines.{texts}
use Rattle.gql_lex.specs.Values.{is_blank_line}
use Rattle.gql_lex.proofs.indents.filled_len.Given as goal

abbrev pub invariant-end : goal.invariant-end
invariant-end l = record {
  within : l.len ≤ length l.lines;
  rest : l.len + suffix_len is_blank_line (texts l.lines) ≡ length (texts l.lines) + suffix_len is_blank_line (take l.len (texts l.lines));
}

abbrev pub decreases-end : goal.decreases-end
decreases-end l = l.len
