-- No road, one more, and the last one.
use Rattle.std.proofs.Common.{ap, arith}
use Rattle.std.specs.List.{list_any}
use Rattle.store_retain.proofs.PathSteps.{paths_end, paths_next}
use Rattle.store_retain.proofs.paths.paths_of.Goals as goal
use Rattle.store_retain.specs.PathView.{paths_steps}

pub roads-init : goal.roads-init
roads-init c = λ fields p. ap (λ ps. list_any p (paths_steps fields ps)) c.in_ok-paths.ensures.items

pub roads-preserved : goal.roads-preserved
roads-preserved c = paths_next c.args.roads.now c.roads.road-index _ c.road-item.result c.roads.paths.items c.push.new.self.items c.in_ok-path.path (omega arith) c.road-item.is c.in_ok-push.ensures.items c.in_ok-path.ensures c.roads.invariant

pub returns : goal.returns
returns c = paths_end c.args.roads.now c.roads.road-index c.roads.paths.items (omega arith) c.roads.invariant
