use Rattle.std.proofs.Common.{ap, ◌∙◌}
use Rattle.std.specs.Map.{keys_of}
use Rattle.schema_types.specs.gql_plain.Tree.{members_of}
use Rattle.schema_types.specs.schema_tables.Required.{count_among, required_names}
use Rattle.schema_values.proofs.Fitting.{pairs_give}
use Rattle.schema_values.proofs.suited.gives_each_required.Goals as goal
use Rattle.schema_values.specs.Means.{gives_each}

pub returns : goal.returns
returns c =
    pairs_give c.args.inputs.now c.pairs.inside.entries.items c.count_required.result c.required_count.result c.pairs.invariant
    (c.count_required.ensures ∙ ap (λ es. count_among (required_names c.args.inputs.now) (keys_of es)) c.deref.ensures.value) c.required_count.ensures
    ∙ ap (λ ms. gives_each c.args.inputs.now (members_of ms)) c.pairs.view_is
