use Rattle.std.proofs.Common.{◌≡◌, ◌++◌, drop, option_map}
use Rattle.store_model.specs.gql_plain.Shown.{plain_trees}
use Rattle.image_rows.specs.Reading.{ids_in}
use Rattle.image_rows.proofs.value.ids_in.Given as goal

abbrev pub invariant-plains : goal.invariant-plains
invariant-plains l =
    ids_in (plain_trees l.plains) ≡ option_map (λ more. l.ids ++ more) (ids_in (plain_trees (drop l.plain-index l.plains)))
