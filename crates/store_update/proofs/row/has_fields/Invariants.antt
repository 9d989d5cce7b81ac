use Rattle.std.proofs.Common.{◌≡◌, drop}
use Rattle.std.specs.List.{list_all}
use Rattle.store_update.proofs.row.has_fields.Given as goal
use Rattle.store_update.specs.Fields.{has_field}

abbrev pub invariant-entries : goal.invariant-entries
invariant-entries l = list_all (has_field l.fields) l.entries ≡ list_all (has_field l.fields) (drop l.entry-index l.entries)
