-- The ids that a walk by ways stands at.
use Rattle.std.specs.Prelude.{ℕ, zero, suc, List, [], ◌∷◌, ◌++◌, cond}
use Rattle.plan_ir.specs.store_record.Keys.{Text}
use Rattle.plan_ir.specs.store_model.Walks.{Slots}
use Rattle.store_retain.specs.Ways.{Parts}
use Rattle.store_retain.specs.Steps.{Step, is_possible, stand_steps}

-- the ids after steps, one after another
abbrev pub after_each : (Step → List Text) → List Step → List Text
after_each next [] = []
after_each next (s ∷ ss) = next s ++ after_each next ss

-- the ids after a step, at most n records one below another
abbrev pub reach_step : Slots → Text → Parts → ℕ → Step → List Text
reach_step m root ps zero s = s.id ∷ []
reach_step m root ps (suc n) s =
    s.id ∷ cond (is_possible root s.types (m s.id)) (after_each (reach_step m root ps n) (stand_steps m root ps (s.id, s.parts))) []
