-- One more name that is not such.
use Rattle.schema_rules.proofs.InheritedSteps.{put_one}
use Rattle.schema_rules.proofs.rules.inherited.put.Goals as goal

pub returns : goal.returns
returns c = λ such h e. put_one c.insert.new.self.names such h.0 c.args.name.now (c.in_ok-_is_new.ensures.known h.0 h.1) h.2 e
