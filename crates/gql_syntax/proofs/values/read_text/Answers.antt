use Rattle.std.proofs.Common.{length, refl, ap}
use Rattle.gql_ast.specs.Value as value
use Rattle.gql_lex.specs.Toks as tok
use Rattle.gql_lex.specs.Values.{string_value_of}
use Rattle.gql_syntax.proofs.ValueMoves.{scalar}
use Rattle.gql_syntax.proofs.values.read_text.Goals as goal

pub returns-clause-reads : goal.returns-clause-reads
returns-clause-reads c =
    λ b r p. scalar (length c.args.cursor.now.text) b c.args.cursor.now.source r p (value.text (string_value_of c.args.token.now.kind c.args.token.now.text.now)) _
    (tok.text (string_value_of c.args.token.now.kind c.args.token.now.text.now)) _ c.requires.comes refl (ap (λ t. value.text t) c.in_ok-text.ensures) c.in_ok-skip.ensures.source
