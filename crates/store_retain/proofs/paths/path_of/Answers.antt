-- What is left of the trails leads to the same, and the numbers are those of all.
use Rattle.std.proofs.Common.{◌≡◌, map, ap, ◌∙◌}
use Rattle.std.specs.List.{list_any}
use Rattle.store_retain.proofs.paths.path_of.Goals as goal
use Rattle.store_retain.specs.Steps.{ways_steps}
use Rattle.store_retain.specs.TrailView.{way_at}
use Rattle.store_retain.specs.Ways.{below_all}

pub returns : goal.returns
returns c =
    let ways = map way_at c.args.road.now.trails.items in
    let numbers : c.in_ok-numbers.numbers.items ≡ below_all ways = c.in_ok-numbers.ensures ∙ ap (λ ts. below_all (map way_at ts)) c.deref-2.ensures.value in
    λ fields p.
    c.in_ok-trails.ensures fields c.in_ok-numbers.numbers.items p
    ∙ (λ i. list_any p (ways_steps fields (numbers i) (map way_at (c.deref.ensures.value i))))
