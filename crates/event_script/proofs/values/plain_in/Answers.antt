use Rattle.serde_json.specs.View.{view}
use Rattle.store_model.proofs.Plains.{plain_known}
use Rattle.event_script.proofs.values.plain_in.Goals as goal

pub returns-in-Ok : goal.returns-in-Ok
returns-in-Ok c = plain_known c.in-Ok.plain (view c.args.value.now) c.in-Ok.ensures.same c.in-Ok.ensures.whole
