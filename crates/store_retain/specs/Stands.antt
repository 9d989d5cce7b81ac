-- When a part stands for a plan: on every object type it has the ways that the plan asks, and what stands below them stands for
-- what stands below there.
use Rattle.std.specs.Prelude.{◌≡◌, ℕ, zero, suc, List, [], ◌∷◌, ◌++◌, cond, Option, None, Some}
use Rattle.std.specs.List.{AllZip}
use Rattle.plan_ir.specs.Normal.{Normal}
use Rattle.plan_ir.specs.NormalMeaning.{Plan, collect_plan, collect_steps}
use Rattle.plan_ir.specs.schema_types.Environments.{Values}
use Rattle.plan_ir.specs.store_model.Items.{Ask, Asked, asked_of, handle_of, key_of}
use Rattle.plan_ir.specs.store_model.Reaches.{types_of}
use Rattle.plan_ir.specs.store_record.Keys.{Text}
use Rattle.store_retain.specs.Ways.{Parts, Way, is_on, ways_in, ways_on}

-- a way is what is asked
pub record IsAsked (a : Ask) (w : Way) : Type 0 where
  pub response : w.response ≡ a.response
  pub key : w.key ≡ key_of a
  pub handle : w.handle ≡ handle_of a
  pub types : w.types ≡ types_of a.form

abbrev pub IsWayOf : (ℕ → Plan → Type 0) → Asked Plan → Way → Type 0
IsWayOf Stands a w = IsAsked a.ask w × Stands w.below a.part

-- the part of a number stands for a plan, so many records down
abbrev pub StandsFor : Parts → ℕ → ℕ → Plan → Type 0
StandsFor ps zero k p = Unit {0}
StandsFor ps (suc n) k p = (T : Text) → AllZip (IsWayOf (StandsFor ps n)) (asked_of (collect_plan T p)) (ways_on T (ways_in ps k))

-- the one list begins with the other
abbrev pub Begins : {X : Type 0} → List X → List X → Type 0
Begins [] ys = Unit {0}
Begins (x ∷ xs) [] = ⊥
Begins (x ∷ xs) (y ∷ ys) = (x ≡ y) × Begins xs ys

-- ways were put that are what is asked on each object type, however many parts are put later
abbrev pub Adds : Parts → List Way → List Way → (Text → List (Asked Plan)) → Type 0
Adds ps old new asks =
    (later : Parts) → Begins ps later → (n : ℕ) (T : Text) (before : List (Asked Plan)) → AllZip (IsWayOf (StandsFor later n)) before (ways_on T old)
    → AllZip (IsWayOf (StandsFor later n)) (before ++ asks T) (ways_on T new)

-- what steps ask of objects of these types
abbrev pub asked_by : Option (List Text) → Values → Normal → Text → List (Asked Plan)
asked_by on env steps T = cond (is_on on T) (asked_of (collect_steps env T steps)) []

-- a number that is known is that of a part which stands for what is led to, however many parts are put later
abbrev pub IsLead : Parts → Values → Option ℕ → Option Normal → Type 0
IsLead ps env None lead = Unit {0}
IsLead ps env (Some k) lead = (later : Parts) → Begins ps later → (n : ℕ) (steps : Normal) → lead ≡ Some steps → StandsFor later n k (record { environment = env; steps = steps })
