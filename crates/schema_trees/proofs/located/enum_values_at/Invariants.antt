-- What is located and what is left are the whole.
use Rattle.std.proofs.Common.{◌≡◌, ◌+◌, ◌++◌, map, drop}
use Rattle.schema_trees.specs.Located.{enum_values_nodes, enum_values_at}
use Rattle.schema_trees.specs.LocatedView.{name_of}
use Rattle.schema_trees.proofs.located.enum_values_at.Given as goal

abbrev pub invariant-values : goal.invariant-values
invariant-values l =
    (map name_of l.located.items ++ enum_values_at l.at (drop l.value-index l.value-items) ≡ enum_values_at l.initial.at l.values)
    × (l.at + enum_values_nodes (drop l.value-index l.value-items) ≡ l.initial.at + enum_values_nodes l.values)
