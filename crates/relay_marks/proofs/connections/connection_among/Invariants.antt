-- None so far is a connection.
use Rattle.std.proofs.Common.{◌≡◌, drop}
use Rattle.relay_marks.specs.Connections.{connection_among}
use Rattle.relay_marks.proofs.connections.connection_among.Given as goal

abbrev pub invariant-directives : goal.invariant-directives
invariant-directives l = connection_among (drop l.directive-index l.directive-items) ≡ connection_among l.directives
