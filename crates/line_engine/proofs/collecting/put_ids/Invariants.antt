use Rattle.std.proofs.Common.{◌≡◌, ◌++◌, drop}
use Rattle.line_engine.proofs.collecting.put_ids.Given as goal

abbrev pub invariant-more : goal.invariant-more
invariant-more l = l.ids.items ++ drop l.id-index l.more ≡ l.fn.ids.items ++ l.more
