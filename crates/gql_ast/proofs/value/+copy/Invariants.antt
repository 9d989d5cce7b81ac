-- What is copied so far is what the loop has passed.
use Rattle.std.proofs.Common.{◌≡◌, map, take}
use Rattle.gql_ast.specs.ValueView.{value_of, argument_of}
use Rattle.gql_ast.proofs.value.+copy.Given as goal

abbrev pub invariant-ValueTrees::copy-values : goal.invariant-ValueTrees::copy-values
invariant-ValueTrees::copy-values l = map value_of l.items.items ≡ map value_of (take l.value-index l.value-items)

abbrev pub invariant-Arguments::copy-arguments : goal.invariant-Arguments::copy-arguments
invariant-Arguments::copy-arguments l = map argument_of l.items.items ≡ map argument_of (take l.argument-index l.argument-items)
