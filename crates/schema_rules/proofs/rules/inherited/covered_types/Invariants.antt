-- None in the set implements an interface that is not named.
use Rattle.std.proofs.Common.{List}
use Rattle.gql_graph.specs.Seen.{Knows}
use Rattle.gql_graph.specs.Texts.{Text}
use Rattle.schema_rules.specs.Inherited.{HasNone}
use Rattle.schema_rules.specs.Rules as rules
use Rattle.schema_rules.proofs.rules.inherited.covered_types.Given as goal

abbrev pub invariant-ranked : goal.invariant-ranked
invariant-ranked l = (ns : List Text) → Knows l.named.names ns → HasNone l.covered.names (rules.leaves_out l.tables ns)
