-- All so far name arguments.
use Rattle.std.proofs.Common.{◌≡◌, map, drop}
use Rattle.gql_syntax.specs.gql_ast.Value.{vals_of}
use Rattle.gql_syntax.specs.gql_ast.ValueView.{value_of}
use Rattle.relay_marks.specs.Connections.{are_among, argument_names}
use Rattle.relay_dirs.proofs.rules.keys.are_among.Given as goal

abbrev pub invariant-values : goal.invariant-values
invariant-values l =
    are_among (argument_names l.field) (vals_of l.values) ≡ are_among (argument_names l.field) (vals_of (map value_of (drop l.value-index l.value-items)))
