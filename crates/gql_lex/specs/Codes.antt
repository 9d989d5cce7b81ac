-- How a source is stored, as the list of its pieces and its fault where it has one; and a text that is read up to an offset.
use Rattle.std.specs.Prelude.{◌≡◌, ℕ, List, [], ◌∷◌, Option, Some, None, refl}
use Rattle.std.specs.Coded.{Coded, code_by, coded×, coded_ℕ, coded_list, coded_option}
use Rattle.std.proofs.Common.{ap}
use Rattle.gql_lex.specs.declared.tokens.TokenKind.{TokenKind}
use Rattle.gql_lex.specs.contracts.tokens.TokenKind as kind
use Rattle.gql_lex.specs.Sources.{Piece, Source, ended, faulty, token}

abbrev coded_piece : Coded Piece
coded_piece =
    code_by (TokenKind × (List ℕ × (ℕ × ℕ))) (coded× kind.the_row.coded (coded× (coded_list coded_ℕ) (coded× coded_ℕ coded_ℕ)))
    (λ p. (p.kind, (p.text, (p.start, p.end)))) (λ q. record { kind = q.0; text = q.1.0; start = q.1.1.0; end = q.1.1.1 }) (λ _. refl)

abbrev Store : Type 0
Store = List Piece × Option (ℕ × ℕ)

abbrev behind : Piece → Store → Store
behind p (ps, f) = (p ∷ ps, f)

abbrev store_of : Source → Store
store_of ended = ([], None)
store_of (faulty code at) = ([], Some (code, at))
store_of (token p rest) = behind p (store_of rest)

abbrev source : List Piece → Option (ℕ × ℕ) → Source
source [] None = ended
source [] (Some f) = faulty f.0 f.1
source (p ∷ ps) f = token p (source ps f)

pub source-store_of : (s : Source) → source (store_of s).0 (store_of s).1 ≡ s
source-store_of ended = refl
source-store_of (faulty code at) = refl
source-store_of (token p rest) = ap (λ r. token p r) (source-store_of rest)

abbrev pub coded_source : Coded Source
coded_source = code_by Store (coded× (coded_list coded_piece) (coded_option (coded× coded_ℕ coded_ℕ))) store_of (λ q. source q.0 q.1) source-store_of

-- the offset in a text up to which it has been read
pub record Progress : Type 0 where
  pub text : List ℕ
  pub at : ℕ

abbrev pub coded_progress : Coded Progress
coded_progress = code_by (List ℕ × ℕ) (coded× (coded_list coded_ℕ) coded_ℕ) (λ p. (p.text, p.at)) (λ q. record { text = q.0; at = q.1 }) (λ _. refl)
