-- What is put and what is left are the whole, and no directives are put.
use Rattle.std.proofs.Common.{◌≡◌, ◌++◌, map, drop}
use Rattle.gql_syntax.specs.gql_ast.ValueView.{argument_of}
use Rattle.constant_values.specs.gql_graph.Rules.{each}
use Rattle.relay_marks.specs.Locals.{local_in_tree}
use Rattle.relay_marks.specs.View.{directives_of_all, local_view}
use Rattle.relay_marks.proofs.local_variables.put_arguments.Given as goal

abbrev pub invariant-arguments : goal.invariant-arguments
invariant-arguments l =
    (map local_view l.locals ++ each local_in_tree (map argument_of (drop l.argument-index l.argument-items)) ≡ map local_view l.initial.locals ++ each local_in_tree l.arguments)
    × (directives_of_all l.locals ≡ directives_of_all l.initial.locals)
