use Rattle.std.proofs.Common.{◌∙◌}
use Rattle.schema_tables.proofs.Named.{inputs_kept}
use Rattle.schema_tables.proofs.tables.Tables.input.Goals as goal
use Rattle.schema_tables.specs.Types.{inputs_of}

pub returns-in-Some : goal.returns-in-Some
returns-in-Some c = c.find.ensures ∙ inputs_kept (inputs_of c.args.self.now c.args.of.now) c.in-Some.inputs c.args.name.now c.in-Some.ensures
