use Rattle.std.proofs.Common.{◌≡◌, take}
use Rattle.store_record.proofs.field.Fields.copy.Given as goal

abbrev pub invariant-entries : goal.invariant-entries
invariant-entries l = l.entries.items ≡ take l.entry-index l.entry-items
