use Rattle.std.proofs.Common.{◌≡◌}
use Rattle.store_source.proofs.versions.VersionsRecordSource.settle.Given as goal

abbrev pub invariant-oldest : goal.invariant-oldest
invariant-oldest l = l.self ≡ l.fn.self
