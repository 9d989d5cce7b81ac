use Rattle.std.proofs.Common.{◌≡◌, length, refl, ap, rules, to_z, of_z, w64}
use Rattle.gql_ast.specs.Value as value
use Rattle.gql_lex.specs.Numbers.{int_value}
use Rattle.gql_lex.specs.Toks as tok
use Rattle.gql_lex.proofs.TokenTexts.{int_text}
use Rattle.gql_syntax.proofs.ValueMoves.{scalar}
use Rattle.gql_syntax.proofs.values.read_int.Goals as goal

pub int_of-number-requires-clause-some : goal.int_of-number-requires-clause-some
int_of-number-requires-clause-some c = (int_text c.args.text.now c.requires.form).some

pub int_of-number-requires-clause-digits : goal.int_of-number-requires-clause-digits
int_of-number-requires-clause-digits c = (int_text c.args.text.now c.requires.form).digits

pub int_of-number-requires-clause-within : goal.int_of-number-requires-clause-within
int_of-number-requires-clause-within c = (int_text c.args.text.now c.requires.form).within

pub returns-clause-reads : goal.returns-clause-reads
returns-clause-reads c =
    λ b r p. scalar (length c.args.cursor.now.text) b c.args.cursor.now.source r p (value.int (int_value c.args.text.now)) _
    (tok.int (int_value c.args.text.now)) _ c.requires.comes refl
    (ap (λ n. value.int n) (let e : to_z w64 (of_z w64 c.int_of-number.result) ≡ int_value c.args.text.now = search rules in e)) c.in_ok-skip.ensures.source
