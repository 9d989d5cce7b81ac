use Rattle.std.proofs.Common.{◌≡◌, ℕ, ◌+◌, ◌*◌, ◌≤◌, true, length, map}
use Rattle.std.specs.List.{list_all, sum_by}
use Rattle.store_conn.specs.store_record.Keys.{Text}
use Rattle.store_conn.specs.store_model.Entries.{asked_by_commands, weights}
use Rattle.store_conn.specs.store_model.Updates.{act_all}
use Rattle.store_update.proofs.commands.act_all.Given as goal
use Rattle.store_update.specs.Slots.{id_of}
use Rattle.store_update.specs.Touched.{AreNoted}
use Rattle.store_update.specs.Turns.{is_of_record, turns}

abbrev pub invariant-runs : goal.invariant-runs
invariant-runs g l = record {
  records : act_all l.rest (g.S.RecordSource.records l.current.source) ≡ act_all l.fn.commands (g.S.RecordSource.records l.fn.draft.source);
  noted : AreNoted (g.S.RecordSource.records l.fn.draft.source) (g.S.RecordSource.records l.current.source) l.fn.draft.noted.items l.current.noted.items;
  few : length l.current.noted.items + 4 * weights (asked_by_commands l.rest (g.S.RecordSource.records l.current.source))
      ≤ length l.fn.draft.noted.items + 4 * weights (asked_by_commands l.fn.commands (g.S.RecordSource.records l.fn.draft.source));
  of_records : list_all is_of_record l.fn.commands ≡ true → list_all is_of_record l.rest ≡ true;
  picked : list_all is_of_record l.fn.commands ≡ true → (number : Text → ℕ)
      → sum_by number l.current.noted.items + sum_by number (turns (map id_of l.rest)) ≤ sum_by number l.fn.draft.noted.items + sum_by number (turns (map id_of l.fn.commands));
  looks : g.S.Count.Steps.looks l.steps + 4 * weights (asked_by_commands l.rest (g.S.RecordSource.records l.current.source))
      ≤ g.S.Count.Steps.looks l.fn.steps + 4 * weights (asked_by_commands l.fn.commands (g.S.RecordSource.records l.fn.draft.source));
  turned : list_all is_of_record l.fn.commands ≡ true
      → g.S.Count.Steps.looks l.steps + length (turns (map id_of l.rest)) ≤ g.S.Count.Steps.looks l.fn.steps + length (turns (map id_of l.fn.commands));
  applies : g.S.Count.Steps.applies l.steps ≡ g.S.Count.Steps.applies l.fn.steps;
}

abbrev pub decreases-runs : goal.decreases-runs
decreases-runs g l = length l.rest
