-- Members are read one after the other.
use Rattle.std.specs.Borrow.{MutBor}
use Rattle.std.proofs.Common.{◌≡◌, ◌≢◌, ℕ, false, List, [], ◌∷◌, ◌++◌, Ok, refl}
use Rattle.gql_syntax.specs.Nexts.{next_is}
use Rattle.gql_syntax.specs.Places.{Ahead}
use Rattle.gql_syntax.specs.Enclosed.{Reader, InTurn, Opened}

in_turn-then : {T : Type 0} (closing : ℕ) (reads : Reader T) (old : Ahead) (here there : MutBor Ahead) (ts : List T) (t : T) → InTurn closing reads old ts here.now
    → next_is closing here.now.source ≡ false → reads here (Ok t) there → InTurn closing reads old (ts ++ t ∷ []) there.now
in_turn-then closing reads old here there [] t i n r = (here, there, i, n, r, refl)
in_turn-then closing reads old here there (u ∷ us) t i n r =
    (i.0, i.1, i.2, i.3, i.4, in_turn-then closing reads i.1.now here there us t i.5 n r)

pub opened-member : {T : Type 0} (opening closing : ℕ) (reads : Reader T) (old : Ahead) (here there : MutBor Ahead) (ts : List T) (t : T) → Opened opening closing reads old here.now ts
    → next_is closing here.now.source ≡ false → reads here (Ok t) there → Opened opening closing reads old there.now (ts ++ t ∷ [])
opened-member opening closing reads old here there ts t o n r =
    record { first = o.first; opens = o.opens; members = in_turn-then closing reads o.first here there ts t o.members n r }

pub some-behind : {T : Type 0} (ts : List T) (t : T) → ts ++ t ∷ [] ≢ []
some-behind [] t = λ e. absurd (cc)
some-behind (u ∷ us) t = λ e. absurd (cc)
