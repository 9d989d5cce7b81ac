-- What is put and what is left are the whole; what stands inside a selection is less deep than its set.
use Rattle.std.proofs.Common.{◌≡◌, ◌+◌, ◌*◌, ◌++◌, map, drop}
use Rattle.doc_sites.specs.gql_ast.SelectionView.{sels_of}
use Rattle.doc_sites.specs.gql_ast.Sels.{depth}
use Rattle.doc_sites.specs.schema_types.FieldRules.{spreads_at_root}
use Rattle.doc_sites.specs.Firsts.{inside}
use Rattle.doc_fields.proofs.spreads.+spreads.Given as goal

abbrev pub decreases-put_spreads : goal.decreases-put_spreads
decreases-put_spreads l = 2 * depth l.selections.now + 1

abbrev pub decreases-put_spreads_of : goal.decreases-put_spreads_of
decreases-put_spreads_of l = 2 * depth (inside l.selection.now) + 2

abbrev pub invariant-put_spreads-selections : goal.invariant-put_spreads-selections
invariant-put_spreads-selections l =
    (sels_of l.selection-items ≡ l.selections)
    × (map (λ n. n.now) l.spreads.items ++ spreads_at_root l.schema l.root (sels_of (drop l.selection-index l.selection-items)) ≡ map (λ n. n.now) l.initial.spreads.items ++ spreads_at_root l.schema l.root l.selections)
