use Rattle.std.proofs.Common.{◌≡◌, drop}
use Rattle.store_layers.proofs.Swept.{swept_of}
use Rattle.store_layers.proofs.sweep.without_ids.Given as goal

abbrev pub invariant-ids : goal.invariant-ids
invariant-ids g l = record {
  records : swept_of (drop l.id-index l.ids) (g.S.RecordSource.records l.left) ≡ swept_of l.ids (g.S.RecordSource.records l.fn.source);
  applies : g.S.Count.Steps.applies l.steps ≡ g.S.Count.Steps.applies l.fn.steps;
  looks : g.S.Count.Steps.looks l.steps ≡ g.S.Count.Steps.looks l.fn.steps;
}
