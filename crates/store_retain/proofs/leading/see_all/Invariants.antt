use Rattle.std.proofs.Common.{◌≡◌, ◌≤◌, ◌||◌, Bool, drop}
use Rattle.plan_ir.specs.gql_plain.Order.{has_text}
use Rattle.plan_ir.specs.store_model.Leads.{with_infos}
use Rattle.plan_ir.specs.store_record.Keys.{Text}
use Rattle.store_retain.proofs.leading.see_all.Given as goal
use Rattle.store_retain.specs.Leading.{IsOpened, left}

abbrev pub invariant-ids : goal.invariant-ids
invariant-ids g l = record {
  noted : (j : Text) → (has_text l.leading.noted.keys j || has_text (with_infos (drop l.id-index l.ids)) j) ≡ (has_text l.fn.leading.noted.keys j || has_text (with_infos l.ids) j);
  opened : (except : Text → Bool) → IsOpened (g.S.RecordSource.records l.source) l.fn.leading.noted.keys l.fn.leading.pending.items except
      → IsOpened (g.S.RecordSource.records l.source) l.leading.noted.keys l.leading.pending.items except;
  less : left (g.S.RecordSource.records l.source) l.leading.noted.keys l.leading.pending.items ≤ left (g.S.RecordSource.records l.source) l.fn.leading.noted.keys l.fn.leading.pending.items;
  applies : g.S.Count.Steps.applies l.steps ≡ g.S.Count.Steps.applies l.fn.steps;
}
