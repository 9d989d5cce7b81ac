use Rattle.std.proofs.Common.{ap}
use Rattle.store_conn.proofs.page.without_server.Goals as goal
use Rattle.store_conn.specs.Changes.{put_all}

pub returns-clause-records : goal.returns-clause-records
returns-clause-records g c = ap (λ cs. put_all cs (g.S.RecordSource.records c.args.source.now)) c.in_ok-changes.ensures
