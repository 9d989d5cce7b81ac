use Rattle.std.proofs.Common.{◌∙◌}
use Rattle.store_watch.proofs.Named.{is_some-lookup}
use Rattle.store_watch.proofs.rows.is_named.Goals as goal

pub returns : goal.returns
returns c = c.contains_key.ensures ∙ is_some-lookup c.args.name.now c.args.rows.now.entries
