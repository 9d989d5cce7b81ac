-- What is collected and what is left are the whole.
use Rattle.std.proofs.Common.{◌≡◌, ◌++◌, map, drop}
use Rattle.schema_trees.specs.LocatedView.{field_of, name_of}
use Rattle.schema_rules.specs.Rules as rules
use Rattle.schema_rules.proofs.rules.names.field_names.Given as goal

abbrev pub invariant-fields : goal.invariant-fields
invariant-fields l = map name_of l.names.items ++ rules.field_names (map field_of (drop l.field-index l.fields)) ≡ rules.field_names (map field_of l.fields)
