use Rattle.std.proofs.Common.{◌≡◌, ◌++◌, drop}
use Rattle.store_tree.specs.Contents.{without_key}
use Rattle.store_source.proofs.newest.copy_without.Given as goal

abbrev pub invariant-changes : goal.invariant-changes
invariant-changes l = l.copy.items ++ without_key l.id (drop l.change-index l.changes) ≡ without_key l.id l.changes
