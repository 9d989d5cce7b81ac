-- What a machine makes of tokens up to their end.
use Rattle.std.proofs.Common.{◌≡◌, ℕ, List, [], ◌∷◌, ◌++◌, Option, Some, None, Result, Ok, Err, refl, sym, ap, ◌∙◌}
use Rattle.gql_lex.specs.Toks.{Tok}
use Rattle.gql_syntax.specs.Run.{Halt}
use Rattle.gql_syntax.proofs.Forms.{AreToks, toks-append}
use Rattle.gql_syntax.proofs.Laws.{Machine, reach_from, reach, Finishes, CanEnd}
use Rattle.gql_syntax.proofs.Reading.{reach-append}

-- the tree at the end, if the machine comes there and ends
abbrev pub outcome_from : {S V : Type 0} → (S → Tok → Result S Halt) → (S → Option V) → Result S Halt → List Tok → Option V
outcome_from step finish (Err h) ts = None
outcome_from step finish (Ok s) [] = finish s
outcome_from step finish (Ok s) (t ∷ ts) = outcome_from step finish (step s t) ts

abbrev pub outcome : {S V : Type 0} → (S → Tok → Result S Halt) → (S → Option V) → S → List Tok → Option V
outcome step finish s ts = outcome_from step finish (Ok s) ts

abbrev pub ended_at : {S V : Type 0} → (S → Option V) → Result S Halt → Option V
ended_at finish (Err h) = None
ended_at finish (Ok s) = finish s

pub outcome-reach : {S V : Type 0} (step : S → Tok → Result S Halt) (finish : S → Option V) (r : Result S Halt) (ts : List Tok)
    → outcome_from step finish r ts ≡ ended_at finish (reach_from step r ts)
outcome-reach step finish (Err h) ts = refl
outcome-reach step finish (Ok s) [] = refl
outcome-reach step finish (Ok s) (t ∷ ts) = outcome-reach step finish (step s t) ts

-- where the machine comes to the same state, the outcome is the same
pub outcome_same : {S V : Type 0} (step : S → Tok → Result S Halt) (finish : S → Option V) (s z : S) (ts us : List Tok)
    → reach step s ts ≡ reach step z us → outcome step finish s ts ≡ outcome step finish z us
outcome_same step finish s z ts us e = outcome-reach step finish (Ok s) ts ∙ ap (λ r. ended_at finish r) e ∙ sym (outcome-reach step finish (Ok z) us)

pub outcome-append : {S V : Type 0} (step : S → Tok → Result S Halt) (finish : S → Option V) (r : Result S Halt) (xs ys : List Tok)
    → outcome_from step finish r (xs ++ ys) ≡ outcome_from step finish (reach_from step r xs) ys
outcome-append step finish (Err h) xs ys = refl
outcome-append step finish (Ok s) [] ys = refl
outcome-append step finish (Ok s) (t ∷ xs) ys = outcome-append step finish (step s t) xs ys

-- an outcome says that the machine finishes
pub finishes : {S V : Type 0} (m : Machine S V) (limit : ℕ) (s : S) (ts : List Tok) (v : V) → outcome (m.step limit) m.finish s ts ≡ Some v → Finishes m limit s ts v
finishes {S = S} m limit s ts v e = at_last (reach (m.step limit) s ts) refl (sym (outcome-reach (m.step limit) m.finish (Ok s) ts) ∙ e)
  where
    at_last : (r : Result S Halt) → reach (m.step limit) s ts ≡ r → ended_at m.finish r ≡ Some v → Finishes m limit s ts v
    at_last (Ok last) d e = record { last = last; reached = d; finished = e }
    at_last (Err h) d e = cc

-- what can be ended behind tokens can be ended before them
pub can_end_before : {S V : Type 0} (m : Machine S V) (limit : ℕ) (s next : S) (ts : List Tok) → AreToks ts → reach (m.step limit) s ts ≡ Ok next → CanEnd m limit next → CanEnd m limit s
can_end_before m limit s next ts f e c = record {
  behind = ts ++ c.behind;
  forms = toks-append ts c.behind f c.forms;
  tree = c.tree;
  finishes = record {
    last = c.finishes.last;
    reached = reach-append (m.step limit) (Ok s) ts c.behind ∙ ap (λ r. reach_from (m.step limit) r c.behind) e ∙ c.finishes.reached;
    finished = c.finishes.finished;
  };
}
