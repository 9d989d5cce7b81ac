use Rattle.std.proofs.Common.{sym}
use Rattle.store_layers.proofs.VersionSteps.{newest_some}
use Rattle.store_layers.proofs.fold.newest.Goals as goal

pub returns-in-Some : goal.returns-in-Some
returns-in-Some g c = sym (newest_some g.S.RecordSource.records (g.S.RecordSource.records c.args.base.now) c.args.versions.now c.in-Some.version.now (sym c.in-Some.ensures.value))
