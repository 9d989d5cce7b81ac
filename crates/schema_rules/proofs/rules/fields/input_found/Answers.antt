-- What is found among the arguments of the code.
use Rattle.schema_rules.proofs.FoundAt.{input_there}
use Rattle.schema_rules.proofs.rules.fields.input_found.Goals as goal

pub returns : goal.returns
returns c = input_there c.args.inputs.now c.args.name.now c.get.result c.get.ensures
