-- How a part of a machine goes on: it takes the token that comes next, or it tells what is wrong.
use Rattle.std.proofs.Common.{◌≡◌, ℕ, Option, None, Result, Ok, Err, refl, ap, ◌∙◌}
use Rattle.gql_lex.specs.Sources.{Piece, Source, ended, faulty, token}
use Rattle.gql_lex.specs.Toks.{Tok, tok_of_piece}
use Rattle.gql_syntax.specs.Nexts.{behind, stopped_at, too_deep_at, Comes}
use Rattle.gql_syntax.specs.Parts.{Part, goes, done, done_before, part_from}
use Rattle.gql_syntax.specs.Run.{Halt, unexpected, too_deep, Stopped, stamp}
use Rattle.gql_syntax.specs.Steps.{resume}

-- the part has not looked ahead
abbrev pub Onward : {S V : Type 0} → Part S V → Type 0
Onward (goes s) = Unit {0}
Onward (done v) = Unit {0}
Onward (done_before v) = ⊥

module _ {S V : Type 0} (step : S → Tok → Result (Part S V) Halt) (ends : S → Option V) (size : ℕ) where
  pub from_here : (x : Part S V) (here src : Source) → Onward x → part_from step ends size (Ok x) here src ≡ resume step ends size x src
  from_here (goes s) here ended o = refl
  from_here (goes s) here (faulty c at) o = refl
  from_here (goes s) here (token p rest) o = refl
  from_here (done v) here src o = refl
  from_here (done_before v) here src o = absurd o

  -- behind a token that the step has taken
  abbrev taken : Piece → Source → Result (Part S V) Halt → Result (V × Source) Stopped
  taken p rest r = part_from step ends size (stamp p.start r) (token p rest) rest

  pub moves : (s : S) (x : Part S V) (t : Tok) (src : Source) → Comes src t → step s t ≡ Ok x → Onward x → resume step ends size (goes s) src ≡ resume step ends size x (behind src)
  moves s x t ended c e o = absurd c
  moves s x t (faulty code at) c e o = absurd c
  moves s x t (token p rest) c e o = ap (λ u. taken p rest (step s u)) c ∙ ap (λ r. taken p rest r) e ∙ from_here x (token p rest) rest o

  -- the token is left for what comes then
  pub leaves : (s : S) (v : V) (t : Tok) (src : Source) → Comes src t → step s t ≡ Ok (done_before v) → resume step ends size (goes s) src ≡ Ok (v, src)
  leaves s v t ended c e = absurd c
  leaves s v t (faulty code at) c e = absurd c
  leaves s v t (token p rest) c e = ap (λ u. taken p rest (step s u)) c ∙ ap (λ r. taken p rest r) e

  pub refuses : (s : S) (src : Source) → ends s ≡ None → ((t : Tok) → Comes src t → step s t ≡ Err unexpected) → resume step ends size (goes s) src ≡ Err (stopped_at size src)
  refuses s ended n h = rw n refl
  refuses s (faulty code at) n h = rw n refl
  refuses s (token p rest) n h = ap (λ r. taken p rest r) (h (tok_of_piece p) refl)

  pub refuses_deep : (s : S) (t : Tok) (src : Source) → Comes src t → step s t ≡ Err too_deep → resume step ends size (goes s) src ≡ Err (too_deep_at size src)
  refuses_deep s t ended c e = absurd c
  refuses_deep s t (faulty code at) c e = absurd c
  refuses_deep s t (token p rest) c e = ap (λ u. taken p rest (step s u)) c ∙ ap (λ r. taken p rest r) e

  -- two states that take each token in the same way
  pub alike : (s u : S) (src : Source) → ends s ≡ ends u → ((t : Tok) → Comes src t → step s t ≡ step u t) → resume step ends size (goes s) src ≡ resume step ends size (goes u) src
  alike s u ended n h = rw n refl
  alike s u (faulty code at) n h = rw n refl
  alike s u (token p rest) n h = ap (λ r. taken p rest r) (h (tok_of_piece p) refl)
