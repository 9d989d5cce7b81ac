-- Whether something is within the limits, and else which of them it breaks.
use Rattle.std.specs.Prelude.{◌≡◌, Bool, ◌||◌, true, false, nat_le, Result, Ok, Err}
use Rattle.plan_expand.specs.declared.extent.Extent.{Extent}
use Rattle.plan_expand.specs.declared.fault.ExpandFault.{ExpandFault}
use Rattle.plan_expand.specs.declared.fault.ExpandFault.TheVariants as F

-- TooManyNodes if and only if there are too many, TooDeep if and only if there are not and it is too deep; else a value of which this holds
abbrev pub Outcome : {A : Type 0} → (many deep : Bool) → (A → Type 0) → Result A ExpandFault → Type 0
Outcome many deep P (Ok a) = P a × (many ≡ false) × (deep ≡ false)
Outcome many deep P (Err F.TooManyNodes) = many ≡ true
Outcome many deep P (Err F.TooDeep) = (many ≡ false) × (deep ≡ true)
Outcome many deep P (Err F.NoMemory) = Unit {0}

abbrev pub are_too_many : Extent → Bool
are_too_many e = nat_le 100001 e.count

abbrev pub nests_too_deep : Extent → Bool
nests_too_deep e = nat_le 61 e.sets || nat_le 61 e.values

-- the answer for something so large
abbrev pub IsOutcome : {A : Type 0} → Extent → (A → Type 0) → Result A ExpandFault → Type 0
IsOutcome e P r = Outcome (are_too_many e) (nests_too_deep e) P r

abbrev pub IsVerdict : {A : Type 0} → Extent → Result A ExpandFault → Type 0
IsVerdict e r = IsOutcome e (λ a. Unit {0}) r

-- something of that size, or, where that is too large, something that is too large too
abbrev pub Enough : (many : Bool) → (whole found : Extent) → Type 0
Enough true whole found = are_too_many whole ≡ true
Enough false whole found = found ≡ whole

abbrev pub IsEnough : (whole found : Extent) → Type 0
IsEnough whole found = Enough (are_too_many found) whole found
