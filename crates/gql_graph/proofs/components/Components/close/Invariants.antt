-- One node fewer waits.
use Rattle.std.proofs.Common.{length}
use Rattle.gql_graph.proofs.components.Components.close.Given as goal

abbrev pub decreases-waiting : goal.decreases-waiting
decreases-waiting l = length l.self.waiting.items
