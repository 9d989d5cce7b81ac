use Rattle.std.proofs.Common.{◌≡◌, take}
use Rattle.store_model.proofs.facts.FactList.copy.Given as goal

abbrev pub invariant-rows : goal.invariant-rows
invariant-rows l = l.rows.items ≡ take l.row-index l.row-items
