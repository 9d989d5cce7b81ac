-- What a trail is seen as.
use Rattle.std.specs.Prelude.{[], ◌∷◌, ◌++◌}
use Rattle.store_model.specs.Says.{Path}
use Rattle.store_report.specs.Steps.{step_of}
use Rattle.store_report.specs.declared.trail.Last.{Last}
use Rattle.store_report.specs.declared.trail.Last.TheVariants.{None, Some}

abbrev pub steps_of : Last → Path
steps_of None = []
steps_of (Some before step) = before.now ++ step_of step ∷ []
