use Rattle.std.proofs.Common.{◌+◌, drop, ap, ◌∙◌, nat_cmp}
use Rattle.std.specs.Cmp.Lexicographic.{slice_cmp}
use Rattle.std.specs.FinMap.Entries.{put}
use Rattle.store_conn.specs.store_model.FactRows.{with_fields}
use Rattle.store_update.proofs.Kept.{with_next}
use Rattle.store_update.proofs.row.with_fields.Goals as goal

pub entries-preserved : goal.entries-preserved
entries-preserved c =
    let i = c.entries.entry-index in
    let item = c.entry-item.result in
    ap (with_fields (drop (i + 1) c.args.entries.now)) (c.in_ok-put_shared.ensures.ok ∙ ap (λ pair. put (slice_cmp nat_cmp) pair.0 pair.1 c.entries.changed) c.in_ok-copy.ensures)
    ∙ with_next c.args.entries.now i item c.entries.changed c.entries-test.true c.entry-item.is ∙ c.entries.invariant
