-- What is found, and what is left keeps, is the same before each operation.
use Rattle.std.proofs.Common.{◌≡◌, ◌||◌}
use Rattle.plan_ir.specs.gql_plain.Order.{has_text}
use Rattle.plan_ir.specs.store_record.Keys.{Text}
use Rattle.store_retain.proofs.mark.mark_released.Given as goal
use Rattle.store_retain.specs.Kept.{is_kept}
use Rattle.store_retain.specs.Steps.{slots_of}

abbrev pub invariant-released : goal.invariant-released
invariant-released g l = record {
  ids : (j : Text) → (has_text l.found.ids j || is_kept (slots_of (g.S.RecordSource.records l.source)) l.held-iterator j)
      ≡ (has_text l.initial.found.ids j || is_kept (slots_of (g.S.RecordSource.records l.source)) l.initial.held-iterator j);
  applies : g.S.Count.Steps.applies l.steps ≡ g.S.Count.Steps.applies l.initial.steps;
}
