use Rattle.std.proofs.Common.{◌≡◌, take}
use Rattle.store_tree.specs.Contents.{keys_of}
use Rattle.store_source.proofs.newest.ids_of_changes.Given as goal

abbrev pub invariant-changes : goal.invariant-changes
invariant-changes l = l.ids.items ≡ keys_of (take l.change-index l.changes)
