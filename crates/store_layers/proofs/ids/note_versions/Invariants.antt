use Rattle.std.proofs.Common.{◌≡◌, ◌++◌, drop}
use Rattle.store_layers.proofs.ids.note_versions.Given as goal
use Rattle.store_layers.specs.Versions.{shown, touched_by}

abbrev pub invariant-versions : goal.invariant-versions
invariant-versions g l = l.ids.items ++ touched_by (shown g.S.RecordSource.records (drop l.version-index l.versions)) ≡ l.fn.ids.items ++ touched_by (shown g.S.RecordSource.records l.versions)
