use Rattle.std.proofs.Common.{◌≡◌, ◌++◌, take}
use Rattle.store_report.proofs.joining.put_copies.Given as goal

abbrev pub invariant-more : goal.invariant-more
invariant-more l = l.fields.items ≡ l.initial.fields.items ++ take l.field-index l.more
