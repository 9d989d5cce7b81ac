use Rattle.std.proofs.lemmas.Str.{IsUtf8-from_ascii}
use Rattle.gql_lex.proofs.Digits.{number_ascii}
use Rattle.gql_lex.proofs.numbers.is_in_i64.Goals as goal

pub returns-in-Err : goal.returns-in-Err
returns-in-Err c = absurd (c.in-Err.ensures.cases.0 (IsUtf8-from_ascii _ (number_ascii _ c.requires.digits)))
