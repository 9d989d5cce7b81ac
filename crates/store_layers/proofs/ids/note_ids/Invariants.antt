use Rattle.std.proofs.Common.{◌≡◌, ◌++◌, drop}
use Rattle.store_layers.proofs.ids.note_ids.Given as goal

abbrev pub invariant-more : goal.invariant-more
invariant-more l = l.ids.items ++ drop l.id-index l.more ≡ l.fn.ids.items ++ l.more
