use Rattle.std.proofs.Common.{is_some, ap, ◌∙◌}
use Rattle.gql_graph.specs.gql_plain.Order.{has_text}
use Rattle.schema_tables.proofs.InputsFound.{needed}
use Rattle.schema_tables.proofs.definitions.InputDefs.needs.Goals as goal
use Rattle.schema_tables.specs.Required.{required_names}

pub find_place-requires : goal.find_place-requires
find_place-requires c = c.self.invariant.required.in_order

pub returns : goal.returns
returns c =
    c.is_some.ensures ∙ ap is_some c.find_place.ensures ∙ needed c.self.inside.trees.now c.self.inside.names.now c.self.inside.required.now c.args.name.now c.self.invariant
    ∙ ap (λ is. has_text (required_names is) c.args.name.now) c.self.view_is
