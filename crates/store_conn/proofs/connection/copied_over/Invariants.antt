use Rattle.std.proofs.Common.{◌≡◌, drop}
use Rattle.store_model.specs.Merge.{copied_over}
use Rattle.store_conn.proofs.connection.copied_over.Given as goal

abbrev pub invariant-fields : goal.invariant-fields
invariant-fields l = copied_over (drop l.field-index l.fields) l.copy ≡ copied_over l.fields l.row
