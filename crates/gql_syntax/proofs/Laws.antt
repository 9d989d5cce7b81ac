-- What has to hold of a machine so that it reads a grammar: each is one case split over states and tokens, or one
-- induction over trees; that the machine gives the one tree of a text, or its first fault, follows from them (`Reading`).
use Rattle.std.proofs.Common.{◌≡◌, ◌≤◌, ◌<◌, ℕ, ◌+◌, List, [], ◌∷◌, map, Option, Some, Result, Ok, Err}
use Rattle.gql_lex.specs.Toks.{Tok}
use Rattle.gql_syntax.specs.Run.{Halt, unexpected, too_deep}
use Rattle.gql_syntax.specs.FirstFault.{Grammar, Shallow}
use Rattle.gql_syntax.proofs.Forms.{AreToks}

-- what a token is, and the number of what it opens
abbrev pub Leveled : Type 0
Leveled = Tok × ℕ

-- the states S of a machine, with a limit on what may stand in one another, and the trees V that it reads
pub record Machine (S V : Type 0) : Type 1 where
  pub start : (limit : ℕ) → S
  pub step : (limit : ℕ) → S → Tok → Result S Halt
  pub finish : S → Option V
  -- the tokens that were read to come here, and then those that are given
  pub so_far : S → List Leveled → List Leveled
  -- the number of what the token opens in this state
  pub level_at : S → Tok → ℕ
  -- the state of a machine whose limit is greater by so much
  pub lift : ℕ → S → S
  -- what holds of each state that is reached
  pub Seated : (limit : ℕ) → S → Type 0

-- where the machine stands behind these tokens
abbrev pub reach_from : {S : Type 0} → (S → Tok → Result S Halt) → Result S Halt → List Tok → Result S Halt
reach_from step (Err h) ts = Err h
reach_from step (Ok s) [] = Ok s
reach_from step (Ok s) (t ∷ ts) = reach_from step (step s t) ts

abbrev pub reach : {S : Type 0} → (S → Tok → Result S Halt) → S → List Tok → Result S Halt
reach step s ts = reach_from step (Ok s) ts

-- the machine reads these tokens to the end, and has this tree
pub record Finishes {S V : Type 0} (m : Machine S V) (limit : ℕ) (s : S) (ts : List Tok) (v : V) : Type 0 where
  pub last : S
  pub reached : reach (m.step limit) s ts ≡ Ok last
  pub finished : m.finish last ≡ Some v

-- some tokens, such as texts have, take the machine to an end
pub record CanEnd {S V : Type 0} (m : Machine S V) (limit : ℕ) (s : S) : Type 0 where
  pub behind : List Tok
  pub forms : AreToks behind
  pub tree : V
  pub finishes : Finishes m limit s behind tree

pub record Stepped {S V : Type 0} (m : Machine S V) (limit : ℕ) (s : S) (t : Tok) : Type 0 where
  pub next : S
  pub stepped : m.step limit s t ≡ Ok next

-- what was read to an end is written so, and is formed where its tokens are such as texts have
pub record Written {S V : Type 0} (g : Grammar V) (m : Machine S V) (s : S) (v : V) : Type 0 where
  pub tokens : map (λ (p : Leveled). p.0) (m.so_far s []) ≡ g.tokens v
  pub levels : map (λ (p : Leveled). p.1) (m.so_far s []) ≡ g.levels v
  pub formed : AreToks (g.tokens v) → g.Formed v

pub record Laws {S V : Type 0} (g : Grammar V) (m : Machine S V) : Type 0 where
  -- the start
  pub begins : (limit : ℕ) → m.Seated limit (m.start limit)
  pub empty : (limit : ℕ) (ts : List Leveled) → m.so_far (m.start limit) ts ≡ ts
  -- each step reads its token, opens not too much, and comes to a state of the same kind
  pub sound : (limit : ℕ) (s : S) (t : Tok) (next : S) → m.Seated limit s → m.step limit s t ≡ Ok next → (ts : List Leveled) → m.so_far next ts ≡ m.so_far s ((t, m.level_at s t) ∷ ts)
  pub shallow : (limit : ℕ) (s : S) (t : Tok) (next : S) → m.Seated limit s → m.step limit s t ≡ Ok next → m.level_at s t ≤ limit
  pub seated : (limit : ℕ) (s : S) (t : Tok) (next : S) → m.Seated limit s → m.step limit s t ≡ Ok next → m.Seated limit next
  pub deep : (limit : ℕ) (s : S) (t : Tok) → m.Seated limit s → m.step limit s t ≡ Err too_deep → limit < m.level_at s t
  -- the end
  pub written : (limit : ℕ) (s : S) (v : V) → m.Seated limit s → m.finish s ≡ Some v → Written g m s v
  -- a machine with a greater limit goes the same way, and takes what is too deep for this one
  pub lift_start : (k limit : ℕ) → m.lift k (m.start limit) ≡ m.start (k + limit)
  pub lift_step : (k limit : ℕ) (s : S) (t : Tok) (next : S) → m.step limit s t ≡ Ok next → m.step (k + limit) (m.lift k s) t ≡ Ok (m.lift k next)
  pub lift_unexpected : (k limit : ℕ) (s : S) (t : Tok) → m.step limit s t ≡ Err unexpected → m.step (k + limit) (m.lift k s) t ≡ Err unexpected
  pub lift_too_deep : (limit : ℕ) (s : S) (t : Tok) → m.step limit s t ≡ Err too_deep → Stepped m (1 + limit) (m.lift 1 s) t
  pub lift_so_far : (k : ℕ) (s : S) (ts : List Leveled) → m.so_far (m.lift k s) ts ≡ m.so_far s ts
  pub lift_level : (k : ℕ) (s : S) (t : Tok) → m.level_at (m.lift k s) t ≡ m.level_at s t
  pub lift_seated : (k limit : ℕ) (s : S) → m.Seated limit s → m.Seated (k + limit) (m.lift k s)
  pub lift_finish : (k : ℕ) (s : S) → m.finish (m.lift k s) ≡ m.finish s
  -- every text is read, and every state can be finished where one more may stand in another
  pub complete : (limit : ℕ) (v : V) → g.Formed v → Shallow limit (g.levels v) → Finishes m limit (m.start limit) (g.tokens v) v
  pub ends : (limit : ℕ) (s : S) → m.Seated limit s → CanEnd m (1 + limit) (m.lift 1 s)
