-- No trail, one more, and the last one.
use Rattle.std.proofs.Common.{map, ap, arith}
use Rattle.std.specs.List.{list_any}
use Rattle.store_retain.proofs.AlikeSteps.{alike_end, alike_next}
use Rattle.store_retain.proofs.roads.unlike.Goals as goal
use Rattle.store_retain.specs.Steps.{ways_steps}
use Rattle.store_retain.specs.TrailView.{way_at}

pub trails-init : goal.trails-init
trails-init c = λ fields ks p. ap (λ ts. list_any p (ways_steps fields ks (map way_at ts))) c.new-unlike.ensures.items

pub trails-preserved : goal.trails-preserved
trails-preserved c =
    alike_next c.args.trails.now c.trails.at-index _ c.at-item.result (map way_at c.trails.unlike.items) (map way_at c.put_unlike.new.trails.items) (omega arith) c.at-item.is c.trails.invariant c.in_ok-put_unlike.ensures

pub returns : goal.returns
returns c = alike_end c.args.trails.now c.trails.at-index (map way_at c.trails.unlike.items) (omega arith) c.trails.invariant
