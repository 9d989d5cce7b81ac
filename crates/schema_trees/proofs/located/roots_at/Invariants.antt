-- What is located and what is left are the whole.
use Rattle.std.proofs.Common.{◌≡◌, ◌+◌, ◌++◌, map, drop}
use Rattle.schema_trees.specs.Located.{roots_nodes, roots_at}
use Rattle.schema_trees.specs.LocatedView.{root_of}
use Rattle.schema_trees.proofs.located.roots_at.Given as goal

abbrev pub invariant-roots : goal.invariant-roots
invariant-roots l =
    (map root_of l.located.items ++ roots_at l.at (drop l.root-index l.root-items) ≡ roots_at l.initial.at l.roots)
    × (l.at + roots_nodes (drop l.root-index l.root-items) ≡ l.initial.at + roots_nodes l.roots)
