use Rattle.std.proofs.Common.{length, ap, ◌∙◌}
use Rattle.schema_tables.proofs.InputsFound.{needed_count}
use Rattle.schema_tables.proofs.definitions.InputDefs.required_count.Goals as goal
use Rattle.schema_tables.specs.Required.{required_names}

pub returns : goal.returns
returns c =
    needed_count c.self.inside.trees.now c.self.inside.names.now c.self.inside.required.now c.self.invariant ∙ ap (λ is. length (required_names is)) c.self.view_is
