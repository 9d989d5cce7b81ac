-- Where texts stand, as far as a few of their bytes tell.
use Rattle.std.specs.Prelude.{◌≡◌, ◌⊎◌, ◌++◌, ℕ, true, List, ◌∷◌, length, nat_lt}
use Rattle.std.specs.Cmp.Lexicographic.{slice_cmp}
use Rattle.std.specs.List.{All, AllAdjacentBelow}
use Rattle.std.specs.Ordering.{nat_cmp}
use Rattle.std.specs.declared.cmp.Ordering.TheVariants.{Less}
use Rattle.gql_order.specs.Heads.{IsHead}
use Rattle.gql_order.specs.declared.heads.Ranked.{Ranked}

-- the text stands before each that begins so
pub record IsBefore (start text : List ℕ) : Type 0 where
  pub less : (rest : List ℕ) → slice_cmp nat_cmp text (start ++ rest) ≡ Less

-- it begins so, and goes on with the rest
pub record HasStart (start text rest : List ℕ) : Type 0 where
  pub is : text ≡ start ++ rest

-- the text stands behind each that begins so
pub record IsBehind (start text : List ℕ) : Type 0 where
  pub less : (rest : List ℕ) → slice_cmp nat_cmp (start ++ rest) text ≡ Less

-- by the first byte of the number the text stands before those that begin so, is one of them, or stands behind them
abbrev pub IsRank : List ℕ → List ℕ → ℕ → Type 0
IsRank start text rank =
    (IsBefore start text × IsHead (0 ∷ text) rank)
    ⊎ (((rest : List ℕ) × HasStart start text rest × IsHead (1 ∷ rest) rank)
    ⊎ (IsBehind start text × IsHead (2 ∷ text) rank))

abbrev pub RanksRise : {T : Type 0} → List (Ranked T) → Type 0
RanksRise ranked = AllAdjacentBelow (λ x y. true ≡ nat_lt x.rank y.rank) ranked (length ranked)

abbrev pub AllRanked : {T : Type 0} → (T → List ℕ) → List ℕ → List (Ranked T) → Type 0
AllRanked key start ranked = All (λ r. IsRank start (key r.item) r.rank) ranked
