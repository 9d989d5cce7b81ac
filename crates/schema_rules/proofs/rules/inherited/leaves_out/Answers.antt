-- One that is covered leaves nothing out.
use Rattle.std.proofs.Common.{sym}
use Rattle.schema_rules.proofs.InheritedSteps.{none_of}
use Rattle.schema_rules.specs.Rules as rules
use Rattle.schema_rules.proofs.rules.inherited.leaves_out.Goals as goal

pub returns-then-contains : goal.returns-then-contains
returns-then-contains c = λ ns k h. sym (none_of c.args.covered.now.names (rules.leaves_out c.args.tables.now ns) c.args.name.now h c.contains.result c.contains.ensures c.if-contains.true)
