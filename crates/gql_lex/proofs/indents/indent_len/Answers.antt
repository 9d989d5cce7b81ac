use Rattle.std.proofs.lemmas.List.Sums.{prefix_len-le-length}
use Rattle.gql_lex.specs.Values.{is_indent}
use Rattle.gql_lex.proofs.indents.indent_len.Goals as goal

pub returns-clause-within : goal.returns-clause-within
returns-clause-within c = rw (c.run_len.ensures, c.as_bytes.ensures.value) (prefix_len-le-length is_indent c.args.line.now)
