-- What is looked for stands in what is left.
use Rattle.std.proofs.Common.{◌≡◌, drop}
use Rattle.std.specs.Prelude.{is_some}
use Rattle.plan_ir.specs.relay_marks.Connections.{connection_among}
use Rattle.plan_expand.proofs.measure.has_connection.Given as goal

abbrev pub invariant-directives : goal.invariant-directives
invariant-directives l = is_some (connection_among l.directives) ≡ is_some (connection_among (drop l.directive-index l.directive-items))
