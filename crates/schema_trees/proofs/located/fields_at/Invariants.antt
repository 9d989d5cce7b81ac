-- What is located and what is left are the whole.
use Rattle.std.proofs.Common.{◌≡◌, ◌+◌, ◌++◌, map, drop}
use Rattle.schema_trees.specs.Located.{fields_nodes, fields_at}
use Rattle.schema_trees.specs.LocatedView.{field_of}
use Rattle.schema_trees.proofs.located.fields_at.Given as goal

abbrev pub invariant-fields : goal.invariant-fields
invariant-fields l =
    (map field_of l.located.items ++ fields_at l.at (drop l.field-index l.field-items) ≡ fields_at l.initial.at l.fields)
    × (l.at + fields_nodes (drop l.field-index l.field-items) ≡ l.initial.at + fields_nodes l.fields)
