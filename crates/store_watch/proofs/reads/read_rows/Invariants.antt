use Rattle.std.proofs.Common.{◌≡◌, ◌+◌, ◌≤◌, ◌++◌, drop}
use Rattle.store_read.specs.Reading.{slots}
use Rattle.store_watch.specs.Reads.{told_of, work_of}
use Rattle.store_watch.specs.Rows.{tellings_of}
use Rattle.store_watch.proofs.reads.read_rows.Given as goal

abbrev pub invariant-places : goal.invariant-places
invariant-places g l = record {
  told : tellings_of l.notices.items ++ told_of (slots (g.S.RecordSource.records l.view)) l.rows (drop l.place-index l.places) ≡ told_of (slots (g.S.RecordSource.records l.view)) l.rows l.places;
  looks : g.S.Count.Steps.looks l.steps + work_of (slots (g.S.RecordSource.records l.view)) l.rows (drop l.place-index l.places)
      ≤ g.S.Count.Steps.looks l.fn.steps + work_of (slots (g.S.RecordSource.records l.view)) l.rows l.places;
  applies : g.S.Count.Steps.applies l.steps ≡ g.S.Count.Steps.applies l.fn.steps;
}
