-- What is put and what is left are the whole, and no directives are put.
use Rattle.std.proofs.Common.{◌≡◌, ◌++◌, [], map, drop}
use Rattle.constant_values.specs.gql_graph.Rules.{each}
use Rattle.relay_marks.specs.Locals.{locals_in_tree, locals_of_tree}
use Rattle.relay_marks.specs.View.{directives_of_all, local_view}
use Rattle.relay_marks.proofs.local_variables.locals.Given as goal

abbrev pub invariant-directives : goal.invariant-directives
invariant-directives l =
    (map local_view l.locals ++ each locals_in_tree (drop l.directive-index l.directive-items) ≡ locals_of_tree l.fragment.directives)
    × (directives_of_all l.locals ≡ [])
