-- What is noted and what is left are the whole.
use Rattle.std.proofs.Common.{◌≡◌, map, drop}
use Rattle.gql_graph.specs.Leasts.{least_from}
use Rattle.schema_trees.specs.LocatedView.{field_of}
use Rattle.schema_rules.specs.Rules as rules
use Rattle.schema_rules.proofs.rules.fields.note_differences.Given as goal

abbrev pub invariant-wanted : goal.invariant-wanted
invariant-wanted l = least_from l.least.at (rules.each (λ w. rules.field_differs l.tables l.name.at (rules.field_found (map field_of l.fields) w.name) w) (drop l.field-index l.wanted)) ≡ least_from l.initial.least.at (rules.each (λ w. rules.field_differs l.tables l.name.at (rules.field_found (map field_of l.fields) w.name) w) l.wanted)
