use Rattle.std.proofs.Common.{◌≡◌, true, false}
use Rattle.plan_ir.specs.gql_plain.Order.{has_text}
use Rattle.plan_ir.specs.store_model.Leads.{leads, with_infos}
use Rattle.plan_ir.specs.store_record.Keys.{Text}
use Rattle.store_retain.proofs.leading.leads.Given as goal
use Rattle.store_retain.specs.Leading.{IsOpened, left}

abbrev pub decreases-pending : goal.decreases-pending
decreases-pending g l = left (g.S.RecordSource.records l.source) l.leading.noted.keys l.leading.pending.items

abbrev pub invariant-pending : goal.invariant-pending
invariant-pending g l = record {
  given : (j : Text) → has_text (with_infos l.ids) j ≡ true → has_text l.leading.noted.keys j ≡ true;
  sound : (j : Text) → has_text l.leading.noted.keys j ≡ true → has_text (leads (g.S.RecordSource.records l.source) l.ids) j ≡ true;
  opened : IsOpened (g.S.RecordSource.records l.source) l.leading.noted.keys l.leading.pending.items (λ j. false);
  applies : g.S.Count.Steps.applies l.steps ≡ g.S.Count.Steps.applies l.fn.steps;
}
