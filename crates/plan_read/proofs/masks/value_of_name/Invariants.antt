-- None so far has the name.
use Rattle.std.proofs.Common.{◌≡◌, map, drop}
use Rattle.plan_ir.specs.gql_ast.ValueView.{argument_of}
use Rattle.plan_ir.specs.relay_marks.Connections.{value_of_name}
use Rattle.plan_read.proofs.masks.value_of_name.Given as goal

abbrev pub invariant-arguments : goal.invariant-arguments
invariant-arguments l = value_of_name (map argument_of (drop l.argument-index l.argument-items)) l.name ≡ value_of_name l.arguments l.name
