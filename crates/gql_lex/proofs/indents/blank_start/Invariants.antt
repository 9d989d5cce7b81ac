use Rattle.std.proofs.Common.{◌≡◌, ◌+◌, drop}
use Rattle.std.specs.List.{prefix_len}
use Rattle.gql_lex.specs.Lines.{texts}
use Rattle.gql_lex.specs.Values.{is_blank_line}
use Rattle.gql_lex.proofs.indents.blank_start.Given as goal

abbrev pub invariant-start : goal.invariant-start
invariant-start l = prefix_len is_blank_line (texts l.lines) ≡ l.at + prefix_len is_blank_line (texts (drop l.at l.lines))
