use Rattle.std.proofs.Common.{◌≡◌, ◌++◌, take}
use Rattle.gql_lex.specs.Lines.{texts}
use Rattle.gql_lex.proofs.Margins.{cut_lines}
use Rattle.gql_lex.proofs.indents.unindent.Given as goal

abbrev pub invariant-loop-line : goal.invariant-loop-line
invariant-loop-line l = texts l.kept.items ≡ texts (take 1 l.lines) ++ cut_lines l.common (texts (take l.line-index l.rest))
