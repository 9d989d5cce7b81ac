use Rattle.std.proofs.Common.{◌≡◌, ◌++◌, drop}
use Rattle.store_model.specs.Leads.{ids_of_fields}
use Rattle.store_sweeps.proofs.links.put_links.Given as goal

abbrev pub invariant-fields : goal.invariant-fields
invariant-fields l = l.ids.items ++ ids_of_fields (drop l.field-index l.field-items) ≡ l.fn.ids.items ++ ids_of_fields l.field-items
