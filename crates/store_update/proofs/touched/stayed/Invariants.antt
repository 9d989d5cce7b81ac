-- Those so far whose slot is the same, and those that are left.
use Rattle.std.proofs.Common.{◌≡◌, ◌+◌, ◌≤◌, ◌&&◌, ◌||◌, not, length}
use Rattle.std.specs.List.{count_by}
use Rattle.store_conn.specs.gql_plain.Order.{has_text}
use Rattle.store_conn.specs.store_record.Keys.{Text}
use Rattle.store_update.proofs.Groups.{AreLeft}
use Rattle.store_update.proofs.touched.stayed.Given as goal
use Rattle.store_update.specs.Touched.{is_changed}
use Rattle.store_update.specs.Turns.{stands_again}

abbrev pub invariant-groups : goal.invariant-groups
invariant-groups g l = record {
  left : AreLeft l.fn.sorted l.rest;
  stayed : (id : Text) → (has_text l.stayed.items id || (has_text l.rest id && (stands_again l.fn.sorted id && not (is_changed (g.S.RecordSource.records l.before) (g.S.RecordSource.records l.after) id))))
      ≡ (stands_again l.fn.sorted id && not (is_changed (g.S.RecordSource.records l.before) (g.S.RecordSource.records l.after) id));
  looks : g.S.Count.Steps.looks l.steps + count_by (stands_again l.fn.sorted) l.rest ≤ g.S.Count.Steps.looks l.fn.steps + count_by (stands_again l.fn.sorted) l.fn.sorted;
  applies : g.S.Count.Steps.applies l.steps ≡ g.S.Count.Steps.applies l.fn.steps;
}

abbrev pub decreases-groups : goal.decreases-groups
decreases-groups g l = length l.rest
