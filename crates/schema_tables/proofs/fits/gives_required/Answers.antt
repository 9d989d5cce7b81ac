use Rattle.std.proofs.Common.{map, sym, ap, ◌∙◌}
use Rattle.gql_ast.specs.ValueView.{argument_of}
use Rattle.schema_tables.proofs.Counting.{object_gives}
use Rattle.schema_tables.proofs.fits.gives_required.Goals as goal
use Rattle.schema_tables.specs.Required.{count_among, member_names, required_names}

pub returns : goal.returns
returns c =
    object_gives c.args.inputs.now c.args.fields.now c.count_required.result c.required_count.result c.requires
    (c.count_required.ensures ∙ ap (λ xs. count_among (required_names c.args.inputs.now) (member_names xs)) (ap (map argument_of) c.deref.ensures.value ∙ c.fields.view_is)) c.required_count.ensures
