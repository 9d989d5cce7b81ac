-- A machine that takes one token at a time, on the tokens that lie ahead. A fault is its code and the offset at which it counts.
use Rattle.std.specs.Prelude.{ℕ, Option, Some, None, Result, Ok, Err}
use Rattle.gql_lex.specs.Toks.{Tok, tok_of_piece}
use Rattle.gql_lex.specs.Sources.{Source, ended, faulty, token}

-- the token may not stand there; or it would open one more of what stands in one another than may
pub data Halt : Type 0 where
  unexpected : Halt
  too_deep : Halt

abbrev pub code_of : Halt → ℕ
code_of unexpected = 6
code_of too_deep = 8

abbrev pub Stopped : Type 0
Stopped = ℕ × ℕ

abbrev pub stamp : {S : Type 0} → (at : ℕ) → Result S Halt → Result S Stopped
stamp at (Ok s) = Ok s
stamp at (Err h) = Err (code_of h, at)

-- the tokens end where the text does
abbrev pub at_end : {A : Type 0} → (size : ℕ) → Option A → Result A Stopped
at_end size (Some a) = Ok a
at_end size None = Err (code_of unexpected, size)

abbrev pub run_from : {S A : Type 0} → (step : S → Tok → Result S Halt) → (done : S → Option A) → (size : ℕ) → Result S Stopped → Source → Result A Stopped
run_from step done size (Err f) ahead = Err f
run_from step done size (Ok s) ended = at_end size (done s)
run_from step done size (Ok s) (faulty code at) = Err (code, at)
run_from step done size (Ok s) (token p rest) = run_from step done size (stamp p.start (step s (tok_of_piece p))) rest

abbrev pub run : {S A : Type 0} → (step : S → Tok → Result S Halt) → (done : S → Option A) → (size : ℕ) → S → Source → Result A Stopped
run step done size s ahead = run_from step done size (Ok s) ahead
