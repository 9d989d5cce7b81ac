use Rattle.gql_lex.specs.declared.tokens.TokenKind.TheVariants.{Punct}
use Rattle.gql_lex.specs.Heads.{IsToken}
use Rattle.gql_lex.proofs.TokenTexts.{punct_some}
use Rattle.gql_syntax.proofs.Sources.{next_is_at}
use Rattle.gql_syntax.proofs.cursor.Cursor.next_is.Goals as goal

pub bounds-as_bytes-0 : goal.bounds-as_bytes-0
bounds-as_bytes-0 c =
    let f : IsToken Punct c.in-Some.token.text.now = rw c.in-Punct.is at c.in-Some.ensures.form in
    rw c.as_bytes.ensures.value (punct_some c.in-Some.token.text.now f)

pub returns-in-Punct : goal.returns-in-Punct
returns-in-Punct c =
    rw c.as_bytes.ensures.value (next_is_at c.args.punctuator c.args.self.now.source c.in-Some.token c.in-Some.ensures.some c.in-Punct.is c.in-Some.ensures.form)
