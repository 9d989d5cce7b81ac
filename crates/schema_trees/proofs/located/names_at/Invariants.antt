-- What is located and what is left are the whole.
use Rattle.std.proofs.Common.{◌≡◌, ◌+◌, ◌++◌, map, drop}
use Rattle.schema_trees.specs.Located.{names_nodes, names_at}
use Rattle.schema_trees.specs.LocatedView.{name_of}
use Rattle.schema_trees.proofs.located.names_at.Given as goal

abbrev pub invariant-names : goal.invariant-names
invariant-names l =
    (map name_of l.located.items ++ names_at l.at (drop l.name-index l.name-items) ≡ names_at l.initial.at l.names)
    × (l.at + names_nodes (drop l.name-index l.name-items) ≡ l.initial.at + names_nodes l.names)
