use Rattle.std.proofs.Common.{◌≡◌, ◌++◌, drop}
use Rattle.store_model.specs.Entries.{some_ids}
use Rattle.store_sweeps.proofs.links.put_some.Given as goal

abbrev pub invariant-links : goal.invariant-links
invariant-links l = l.ids.items ++ some_ids (drop l.link-index l.link-items) ≡ l.fn.ids.items ++ some_ids l.link-items
