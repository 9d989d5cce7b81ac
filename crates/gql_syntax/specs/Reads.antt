-- What the readers of a grammar's parts answer: from wherever a part stands, the machine goes on behind it, or it stops.
use Rattle.std.specs.Prelude.{◌≡◌, ◌≢◌, ◌≤◌, ◌⊎◌, ℕ, false, List, [], length, Result, Ok, Err}
use Rattle.gql_lex.specs.Sources.{Source, ended}
use Rattle.gql_syntax.specs.Nexts.{next_is, token_count}
use Rattle.gql_syntax.specs.Places.{Ahead, lay}
use Rattle.gql_syntax.specs.Run.{Stopped}
use Rattle.gql_syntax.specs.declared.fault.Fault.{Fault}
use Rattle.gql_syntax.specs.declared.fault.Fault.TheVariants.{Wrong, NoMemory}

-- what a machine makes of what lies ahead, from a state, in a text of so many bytes
abbrev pub Runs : (S O : Type 0) → Type 0
Runs S O = (size : ℕ) → S → Source → Result O Stopped

-- what has been read is written so: it stands for this; from each place K where it may stand the machine goes on behind it; and
-- the places of its nodes are given
pub record Read {S O K W T : Type 0} (run : Runs S O) (May : K → Source → Type 0) (from : K → S) (to : K → W → S) (spell : W → List ℕ → List ℕ) (view : W → T) (old new : Ahead) (t : T) : Type 0 where
  pub written : W
  pub viewed : view written ≡ t
  pub goes : (k : K) (size : ℕ) → size ≡ length old.text → May k old.source → run size (from k) old.source ≡ run size (to k written) new.source
  pub nodes : (ns : List ℕ) → lay (spell written ns) old ≡ lay ns new
  pub taken : token_count new.source ≤ token_count old.source
  pub text : new.text ≡ old.text

-- the machine stops with this fault
abbrev pub Fails : {S O K : Type 0} → Runs S O → (May : K → Source → Type 0) → (from : K → S) → Ahead → Fault → Type 0
Fails {K = K} run May from old (Wrong code at) = (k : K) (size : ℕ) → size ≡ length old.text → May k old.source → run size (from k) old.source ≡ Err (code, at)
Fails run May from old NoMemory = Unit {0}

abbrev pub Reads : {S O K W T : Type 0} → Runs S O → (May : K → Source → Type 0) → (from : K → S) → (to : K → W → S) → (spell : W → List ℕ → List ℕ) → (view : W → T) → (old new : Ahead) → Result T Fault → Type 0
Reads run May from to spell view old new (Ok t) = Read run May from to spell view old new t
Reads run May from to spell view old new (Err f) = Fails run May from old f

-- ---- where a part may stand

abbrev pub Anywhere : {K : Type 0} → K → Source → Type 0
Anywhere k ahead = Unit {0}

-- no directive follows
abbrev pub NoDirective : {K : Type 0} → K → Source → Type 0
NoDirective k ahead = next_is 64 ahead ≡ false

-- the text does not end here, but behind definitions
abbrev pub MayDefine : {D : Type 0} → List D → Source → Type 0
MayDefine ds ahead = (ds ≡ []) ⊎ (ahead ≢ ended)

-- ---- a whole text

-- from this state the text has been read to its end
pub record ReadAll {S O T : Type 0} (run : Runs S O) (start : S) (nodes_of : O → List ℕ) (view : O → T) (old new : Ahead) (t : T) : Type 0 where
  pub written : O
  pub viewed : view written ≡ t
  pub read : (size : ℕ) → size ≡ length old.text → run size start old.source ≡ Ok written
  pub nodes : lay (nodes_of written) old ≡ new.places

abbrev pub ReadsAll : {S O T : Type 0} → Runs S O → (start : S) → (nodes_of : O → List ℕ) → (view : O → T) → (old new : Ahead) → Result T Fault → Type 0
ReadsAll run start nodes_of view old new (Ok t) = ReadAll run start nodes_of view old new t
ReadsAll run start nodes_of view old new (Err f) = Fails {K = Unit {0}} run Anywhere (λ u. start) old f
