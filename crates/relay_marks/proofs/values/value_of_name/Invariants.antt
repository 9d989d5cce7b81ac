-- None so far has the name.
use Rattle.std.proofs.Common.{◌≡◌, map, drop}
use Rattle.gql_syntax.specs.gql_ast.ValueView.{argument_of}
use Rattle.relay_marks.specs.Connections.{value_of_name}
use Rattle.relay_marks.proofs.values.value_of_name.Given as goal

abbrev pub invariant-arguments : goal.invariant-arguments
invariant-arguments l = value_of_name (map argument_of (drop l.argument-index l.argument-items)) l.name ≡ value_of_name l.arguments l.name
