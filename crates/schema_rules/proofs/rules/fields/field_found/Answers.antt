-- What is found among the fields of the code.
use Rattle.schema_rules.proofs.FoundAt.{field_there}
use Rattle.schema_rules.proofs.rules.fields.field_found.Goals as goal

pub returns : goal.returns
returns c = field_there c.args.fields.now c.args.name.now c.get.result c.get.ensures
