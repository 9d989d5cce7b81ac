-- What is counted and what is left are the whole.
use Rattle.std.proofs.Common.{◌≡◌, ◌+◌, ◌≤◌, map, drop}
use Rattle.gql_ast.specs.ValueView.{argument_of}
use Rattle.schema_tables.proofs.fits.count_required.Given as goal
use Rattle.schema_tables.specs.Required.{count_among, member_names, required_names}

abbrev pub invariant-fields : goal.invariant-fields
invariant-fields l =
    ((l.count + count_among (required_names l.inputs) (member_names (map argument_of (drop l.field-index l.fields)))) ≡ count_among (required_names l.inputs) (member_names (map argument_of l.fields)))
    × (l.count ≤ l.field-index)
