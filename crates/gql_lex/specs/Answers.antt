-- What a lexer answers, by the tokens that lie ahead of it.
use Rattle.std.specs.Prelude.{◌≡◌, Option, None, Result, IsOkAnd, IsSomeAnd, IsErrAnd}
use Rattle.gql_lex.specs.declared.tokens.Token.{Token}
use Rattle.gql_lex.specs.declared.tokens.LexFault.{LexFault}
use Rattle.gql_lex.specs.Sources.{Piece, Source, ended, faulty, token}

-- a token is this piece of the text
abbrev pub piece_of : Token → Piece
piece_of t = record { kind = t.kind; text = t.text.now; start = t.start; end = t.end }

-- the next token, and what lies ahead behind it; a fault, and the end, stay where they are
abbrev pub Gives : Result (Option Token) LexFault → (after before : Source) → Type 0
Gives answer after ended = IsOkAnd answer (λ o. o ≡ None) × (after ≡ ended)
Gives answer after (faulty code at) = IsErrAnd answer (λ f. (f.code ≡ code) × (f.at ≡ at)) × (after ≡ faulty code at)
Gives answer after (token p rest) = IsOkAnd answer (λ o. IsSomeAnd o (λ t. piece_of t ≡ p)) × (after ≡ rest)
