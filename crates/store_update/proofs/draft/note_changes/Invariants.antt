use Rattle.std.proofs.Common.{◌≡◌, ◌++◌, drop}
use Rattle.store_update.proofs.draft.note_changes.Given as goal
use Rattle.store_update.specs.Touched.{ids_put}

abbrev pub invariant-changes : goal.invariant-changes
invariant-changes l = l.noted.items ++ ids_put (drop l.change-index l.changes) ≡ l.fn.noted.items ++ ids_put l.changes
