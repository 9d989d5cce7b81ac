-- The paths are those of the roads.
use Rattle.std.proofs.Common.{map, ap, ◌∙◌}
use Rattle.std.specs.List.{list_any}
use Rattle.store_retain.proofs.paths.paths_from.Goals as goal
use Rattle.store_retain.specs.RoadView.{road_of}
use Rattle.store_retain.specs.Steps.{roads_steps}

pub returns-clause-right : goal.returns-clause-right
returns-clause-right c = λ fields p.
    c.in_ok-paths.ensures fields p ∙ ap (λ rs. list_any p (roads_steps fields rs)) (ap (map road_of) c.deref.ensures.value ∙ c.in_ok-roads.ensures)
