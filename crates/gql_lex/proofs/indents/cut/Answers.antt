use Rattle.std.proofs.Common.{arith}
use Rattle.gql_lex.proofs.Margins.{indent_boundary}
use Rattle.gql_lex.proofs.indents.cut.Goals as goal

pub range_from-requires : goal.range_from-requires
range_from-requires c p = indent_boundary c.args.line.now c.min.result c.utf8.line p (omega (arith, c.min.ensures, c.indent_len.ensures.is))
