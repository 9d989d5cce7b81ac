-- None so far leaves one out.
use Rattle.std.proofs.Common.{◌≡◌, List, map, drop}
use Rattle.std.specs.List.{list_any}
use Rattle.schema_trees.specs.LocatedView.{name_of}
use Rattle.schema_rules.specs.Inherited.{HasNone}
use Rattle.schema_rules.specs.Rules as rules
use Rattle.gql_graph.specs.Seen.{Knows}
use Rattle.gql_graph.specs.Texts.{Text}
use Rattle.schema_rules.proofs.rules.inherited.one_leaves_out.Given as goal

abbrev pub invariant-interfaces : goal.invariant-interfaces
invariant-interfaces l = (ns : List Text) → Knows l.named.names ns → HasNone l.covered.names (rules.leaves_out l.tables ns) →
    list_any (rules.leaves_out l.tables ns) (rules.names_of (map name_of (drop l.interface-index l.interfaces))) ≡ list_any (rules.leaves_out l.tables ns) (rules.names_of (map name_of l.interfaces))
