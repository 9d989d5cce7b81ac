use Rattle.std.proofs.Common.{◌≡◌, ◌+◌, ◌*◌, ◌≤◌, [], drop, length}
use Rattle.store_conn.specs.store_model.Entries.{asked_by_pages, merge_all, weights}
use Rattle.store_update.proofs.pages.put_pages.Given as goal
use Rattle.store_update.specs.Touched.{AreNoted}

abbrev pub invariant-pages : goal.invariant-pages
invariant-pages g l = record {
  records : merge_all (drop l.handle-index l.handles) (g.S.RecordSource.records l.current.source) ≡ merge_all l.handles (g.S.RecordSource.records l.fn.draft.source);
  noted : AreNoted (g.S.RecordSource.records l.fn.draft.source) (g.S.RecordSource.records l.current.source) l.fn.draft.noted.items l.current.noted.items;
  none : l.handles ≡ [] → l.current.noted.items ≡ l.fn.draft.noted.items;
  few : length l.current.noted.items + 4 * weights (asked_by_pages (drop l.handle-index l.handles) (g.S.RecordSource.records l.current.source))
      ≤ length l.fn.draft.noted.items + 4 * weights (asked_by_pages l.handles (g.S.RecordSource.records l.fn.draft.source));
  looks : g.S.Count.Steps.looks l.steps + 4 * weights (asked_by_pages (drop l.handle-index l.handles) (g.S.RecordSource.records l.current.source))
      ≤ g.S.Count.Steps.looks l.fn.steps + 4 * weights (asked_by_pages l.handles (g.S.RecordSource.records l.fn.draft.source));
  applies : g.S.Count.Steps.applies l.steps ≡ g.S.Count.Steps.applies l.fn.steps;
}
