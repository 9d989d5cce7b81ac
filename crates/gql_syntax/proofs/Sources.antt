-- What a lexer answers, as what lies ahead, in the order of the text.
use Rattle.std.proofs.Common.{◌≡◌, ◌≤◌, ℕ, List, Option, Some, None, Result, Ok, Err, refl, sym, arith, eqb, get_or}
use Rattle.gql_lex.specs.declared.tokens.Token.{Token}
use Rattle.gql_lex.specs.declared.tokens.LexFault.{LexFault}
use Rattle.gql_lex.specs.Answers.{piece_of, Gives}
use Rattle.gql_lex.specs.Descriptions.{Describes}
use Rattle.gql_lex.specs.Sources.{Source, ended, faulty, token}
use Rattle.gql_lex.specs.Heads.{IsToken}
use Rattle.gql_lex.specs.declared.tokens.TokenKind.TheVariants.{Punct}
use Rattle.gql_syntax.specs.Nexts.{source_of, InOrder, behind, next_is, IsLast}
use Rattle.gql_syntax.proofs.Puncts.{punct_stands}

pub gives_source : (r : Result (Option Token) LexFault) (after before : Source) → Gives r after before → source_of r after ≡ before
gives_source (Ok None) after ended g = refl
gives_source (Ok (Some t)) after ended g = let e : Some t ≡ None = g.0 in absurd cc
gives_source (Err f) after ended g = absurd g.0
gives_source (Ok o) after (faulty code at) g = absurd g.0
gives_source (Err f) after (faulty code at) g = let a : f.code ≡ code = g.0.0 in let b : f.at ≡ at = g.0.1 in rw (a, b) refl
gives_source (Ok None) after (token p rest) g = absurd g.0
gives_source (Ok (Some t)) after (token p rest) g = let a : piece_of t ≡ p = g.0 in let b : after ≡ rest = g.1 in cc
gives_source (Err f) after (token p rest) g = absurd g.0

pub in_order : (text : List ℕ) (low from : ℕ) (s : Source) → low ≤ from → Describes text from s → InOrder text low s
in_order text low from ended l d = tt
in_order text low from (faulty code at) l d = (omega (arith, d.0), d.2)
in_order text low from (token p rest) l d =
    (omega (arith, d.0.behind), d.0.start, d.0.form, in_order text p.start p.end rest (omega (arith, d.0.some)) d.1)

-- a token that is a punctuator
pub next_is_at : (c : ℕ) (s : Source) (t : Token) → s ≡ token (piece_of t) (behind s) → t.kind ≡ Punct → IsToken t.kind t.text.now → eqb (get_or t.text.now 0 0) c ≡ next_is c s
next_is_at c ended t e k f = absurd cc
next_is_at c (faulty code at) t e k f = absurd cc
next_is_at c (token p rest) t e k f =
    let q : p ≡ piece_of t = cc in
    rw (q, k) (sym (punct_stands t.text.now (rw k at f) c).0)

pub last_ok : (r : Result (Option Token) LexFault) (rest : Source) → r ≡ Ok None → IsLast (source_of r rest)
last_ok r rest e = rw e tt

pub last_err : (r : Result (Option Token) LexFault) (rest : Source) (f : LexFault) → r ≡ Err f → IsLast (source_of r rest)
last_err r rest f e = rw e tt
