use Rattle.schema_tables.proofs.Pairs.{put_next}
use Rattle.schema_tables.proofs.index.put.Goals as goal

pub returns : goal.returns
returns c = λ n. put_next c.args.pairs.now.items c.push.new.self.items _ n c.in_ok-push.ensures.items
