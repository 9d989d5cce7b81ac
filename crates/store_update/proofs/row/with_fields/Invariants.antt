use Rattle.std.proofs.Common.{◌≡◌, drop}
use Rattle.store_conn.specs.store_model.FactRows.{with_fields}
use Rattle.store_update.proofs.row.with_fields.Given as goal

abbrev pub invariant-entries : goal.invariant-entries
invariant-entries l = with_fields (drop l.entry-index l.entries) l.changed ≡ with_fields l.entries l.fields
