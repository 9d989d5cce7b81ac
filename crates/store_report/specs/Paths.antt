-- What a path is seen as, and what holds of it.
use Rattle.std.specs.Prelude.{◌≡◌, ◌+◌, [], ◌∷◌, ◌++◌, length, Option, Some, None}
use Rattle.std.specs.declared.rc.Rc.{Rc}
use Rattle.store_model.specs.Says.{Path}
use Rattle.store_report.specs.Steps.{step_of}
use Rattle.store_report.specs.declared.path.Reached.{Reached}

abbrev pub steps_to : {A : Type 0} → Option (Rc Reached A) → Path
steps_to None = []
steps_to (Some last) = last.value.before ++ step_of last.value.step ∷ []

-- the stored number of steps is right
abbrev pub IsCounted : {A : Type 0} → Option (Rc Reached A) → Type 0
IsCounted None = Unit {0}
IsCounted (Some last) = last.value.len ≡ length last.value.before + 1
