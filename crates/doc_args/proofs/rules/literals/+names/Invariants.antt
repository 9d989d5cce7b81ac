-- The names that are passed are seen; what is passed differs.
use Rattle.std.proofs.Common.{◌≡◌, ◌≤◌, List, length, map, drop}
use Rattle.doc_uses.specs.gql_ast.Value.{members_of, vals_of}
use Rattle.doc_uses.specs.gql_ast.ValueView.{value_of}
use Rattle.gql_graph.specs.gql_plain.Order.{has_text}
use Rattle.doc_uses.specs.schema_types.ArgumentRules as rules
use Rattle.doc_uses.specs.schema_tables.Fits.{has_member}
use Rattle.gql_graph.specs.Seen.{Knows}
use Rattle.gql_graph.specs.Texts.{Text}
use Rattle.doc_args.proofs.rules.literals.+names.Given as goal

abbrev pub decreases-names_differ : goal.decreases-names_differ
decreases-names_differ l = goal.size-names_differ l

abbrev pub decreases-names_differ_in : goal.decreases-names_differ_in
decreases-names_differ_in l = goal.size-names_differ_in l

abbrev pub decreases-names_differ_among : goal.decreases-names_differ_among
decreases-names_differ_among l = goal.size-names_differ_among l

abbrev pub decreases-names_differ_among-members : goal.decreases-names_differ_among-members
decreases-names_differ_among-members l = l.left

abbrev pub invariant-names_differ_in-values : goal.invariant-names_differ_in-values
invariant-names_differ_in-values l = rules.names_differ_in (vals_of l.values) ≡ rules.names_differ_in (vals_of (map value_of (drop l.value-index l.value-items)))

abbrev pub invariant-names_differ_among-members : goal.invariant-names_differ_among-members
invariant-names_differ_among-members l =
    (l.left ≤ length l.members)
    × ((ns : List Text) × Knows l.seen.names ns × ((n : Text) → has_text ns n ≡ has_member n (members_of (drop l.left l.members))))
    × (l.differ ≡ rules.names_differ_among (members_of (drop l.left l.members)))
