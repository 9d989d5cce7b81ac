use Rattle.std.proofs.Common.{◌≡◌, take, string_bytes}
use Rattle.gql_lex.specs.Lines.{texts}
use Rattle.gql_lex.specs.Values.{join_lines}
use Rattle.gql_lex.proofs.indents.join_lines.Given as goal

abbrev pub invariant-loop-at : goal.invariant-loop-at
invariant-loop-at l = string_bytes l.text ≡ join_lines (texts (take l.at l.lines))
