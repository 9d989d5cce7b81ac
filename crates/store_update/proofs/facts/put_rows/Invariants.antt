use Rattle.std.proofs.Common.{◌≡◌, ◌+◌, ◌≤◌, drop, map, take}
use Rattle.store_conn.specs.store_model.FactRows.{put_rows}
use Rattle.store_conn.specs.store_model.declared.facts.FactRow.{FactRow}
use Rattle.store_update.proofs.facts.put_rows.Given as goal
use Rattle.store_update.specs.Touched.{AreNoted, ArePicked}

abbrev pub invariant-rows : goal.invariant-rows
invariant-rows g l = record {
  records : put_rows (drop l.row-index l.rows) (g.S.RecordSource.records l.current.source) ≡ put_rows l.rows (g.S.RecordSource.records l.fn.draft.source);
  noted : AreNoted (g.S.RecordSource.records l.fn.draft.source) (g.S.RecordSource.records l.current.source) l.fn.draft.noted.items l.current.noted.items;
  picked : ArePicked (map (λ (r : FactRow). r.id) (take l.row-index l.rows)) l.fn.draft.noted.items l.current.noted.items;
  looks : g.S.Count.Steps.looks l.steps ≤ g.S.Count.Steps.looks l.fn.steps + l.row-index;
  applies : g.S.Count.Steps.applies l.steps ≡ g.S.Count.Steps.applies l.fn.steps;
}
