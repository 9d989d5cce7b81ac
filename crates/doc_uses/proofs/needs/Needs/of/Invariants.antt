-- What is known so far sums up.
use Rattle.std.proofs.Common.{List}
use Rattle.doc_sites.specs.schema_types.ArgumentRules.{Use}
use Rattle.doc_sites.specs.gql_graph.Graphs.{Tells}
use Rattle.doc_sites.specs.gql_graph.Texts.{Text}
use Rattle.doc_uses.specs.Needs.{SumsUp}
use Rattle.doc_uses.specs.UsesByName.{Gathers}
use Rattle.doc_uses.proofs.needs.Needs.of.Given as goal

abbrev pub invariant-names : goal.invariant-names
invariant-names l = (next : Text → List Text) → Tells l.graph next → (uses : Text → List Use) → Gathers l.gathered uses → SumsUp l.needs next uses
