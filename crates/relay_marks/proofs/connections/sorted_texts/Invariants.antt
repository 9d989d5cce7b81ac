-- What is put and what is left are the whole.
use Rattle.std.proofs.Common.{◌≡◌, ◌++◌, map, drop}
use Rattle.gql_syntax.specs.gql_ast.Value.{vals_of}
use Rattle.gql_syntax.specs.gql_ast.ValueView.{value_of}
use Rattle.relay_marks.specs.Connections.{texts_in}
use Rattle.relay_marks.proofs.connections.sorted_texts.Given as goal

abbrev pub invariant-values : goal.invariant-values
invariant-values l = l.texts.items ++ texts_in (vals_of (map value_of (drop l.value-index l.value-items))) ≡ texts_in (vals_of l.values)
