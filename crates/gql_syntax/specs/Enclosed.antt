-- Members between two punctuators.
use Rattle.std.specs.Borrow.{MutBor}
use Rattle.std.specs.Prelude.{◌≡◌, ◌≢◌, ◌<◌, ℕ, true, false, List, [], ◌∷◌, length, Result, Ok, Err, Vec}
use Rattle.gql_syntax.specs.Answers.{Misses, wrong_at}
use Rattle.gql_syntax.specs.Nexts.{behind, next_is, stopped_at, token_count}
use Rattle.gql_syntax.specs.Places.{Ahead, lay}
use Rattle.gql_syntax.specs.declared.fault.Fault.{Fault}
use Rattle.gql_syntax.specs.declared.fault.Fault.TheVariants.{NoMemory}

-- the punctuator stood there, and has been taken
pub record Takes (punctuator : ℕ) (old new : Ahead) : Type 0 where
  pub there : next_is punctuator old.source ≡ true
  pub source : new.source ≡ behind old.source
  pub places : (ns : List ℕ) → lay (0 ∷ ns) old ≡ lay ns new
  pub text : new.text ≡ old.text

-- what a reader of members ensures: what a call gives, with the cursor before and then
abbrev pub Reader : Type 0 → Type 1
Reader T = MutBor Ahead → Result T Fault → MutBor Ahead → Type 0

-- where it gives a member, it has taken a token
abbrev pub TakesTokens : {T : Type 0} → Reader T → Type 0
TakesTokens {T} reads = (old new : MutBor Ahead) (t : T) → reads old (Ok t) new → token_count new.now.source < token_count old.now.source

-- these members were read one after the other, and the closing punctuator stands in front of none of them
abbrev pub InTurn : {T : Type 0} → (closing : ℕ) → Reader T → (old : Ahead) → List T → (new : Ahead) → Type 0
InTurn closing reads old [] new = old ≡ new
InTurn closing reads old (t ∷ ts) new =
    (here there : MutBor Ahead) × (old ≡ here.now) × (next_is closing here.now.source ≡ false) × reads here (Ok t) there × InTurn closing reads there.now ts new

module _ {T : Type 0} (opening closing : ℕ) (reads : Reader T) where
  -- the list has been opened, and these members were read
  pub record Opened (old new : Ahead) (ts : List T) : Type 0 where
    pub first : Ahead
    pub opens : Takes opening old first
    pub members : InTurn closing reads first ts new

  -- all members were read, and there are some
  pub record Enclosed (old new : Ahead) (ts : List T) : Type 0 where
    pub last : Ahead
    pub opened : Opened old last ts
    pub some : ts ≢ []
    pub closes : Takes closing last new

  -- why they were not read
  pub data Unread (old : Ahead) (f : Fault) : Type 0 where
    no_memory : f ≡ NoMemory → Unread old f
    not_opened : Misses f (next_is opening old.source ≡ false) (stopped_at (length old.text) old.source) → Unread old f
    closed_at_once : (here : Ahead) → Opened old here [] → next_is closing here.source ≡ true → f ≡ wrong_at (stopped_at (length here.text) here.source) → Unread old f
    member_fails : (here there : MutBor Ahead) → (ts : List T) → Opened old here.now ts → next_is closing here.now.source ≡ false → reads here (Err f) there → Unread old f

  abbrev pub Encloses : {A : Type 0} → (old new : Ahead) → Result (Vec T A) Fault → Type 0
  Encloses old new (Ok ts) = Enclosed old new ts.items
  Encloses old new (Err f) = Unread old f
