-- What is gathered and what is left are the whole; what stands inside a selection is less deep than its set.
use Rattle.std.proofs.Common.{◌≡◌, ◌+◌, ◌*◌, drop}
use Rattle.doc_sites.specs.gql_ast.SelectionView.{sels_of}
use Rattle.doc_sites.specs.gql_ast.Sels.{depth}
use Rattle.doc_sites.specs.schema_types.FieldRules as rules
use Rattle.doc_sites.specs.Firsts.{inside}
use Rattle.doc_fields.specs.Keys.{join_sums, keys_view, sum_of}
use Rattle.doc_fields.proofs.keys.+keys.Given as goal

abbrev pub decreases-keys_in : goal.decreases-keys_in
decreases-keys_in l = 2 * depth l.selections.now + 1

abbrev pub decreases-keys_at : goal.decreases-keys_at
decreases-keys_at l = 2 * depth (inside l.selection.now) + 2

abbrev pub invariant-keys_in-selections : goal.invariant-keys_in-selections
invariant-keys_in-selections l =
    (sels_of l.selection-items ≡ l.selections)
    × (join_sums (keys_view l.keys) (sum_of (rules.keys_in l.schema l.root (sels_of (drop l.selection-index l.selection-items)))) ≡ sum_of (rules.keys_in l.schema l.root l.selections))
