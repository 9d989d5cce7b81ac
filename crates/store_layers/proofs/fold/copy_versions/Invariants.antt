use Rattle.std.proofs.Common.{◌≡◌, ◌++◌, drop}
use Rattle.store_layers.proofs.fold.copy_versions.Given as goal
use Rattle.store_layers.specs.Versions.{shown}

abbrev pub invariant-versions : goal.invariant-versions
invariant-versions g l = shown g.S.RecordSource.records l.copies.items ++ shown g.S.RecordSource.records (drop l.version-index l.versions) ≡ shown g.S.RecordSource.records l.versions
