use Rattle.std.proofs.Common.{◌≡◌, List, Some, map, drop}
use Rattle.gql_ast.specs.TypeView.{ty_of}
use Rattle.gql_ast.specs.Value.{vals_of, members_of}
use Rattle.gql_ast.specs.ValueView.{value_of, argument_of}
use Rattle.gql_ast.specs.declared.member.InputTree.{InputTree}
use Rattle.schema_tables.proofs.tables.Tables.+fits.Given as goal
use Rattle.schema_tables.specs.Fits.{items_fit, members_fit, fields}
use Rattle.schema_tables.specs.Types.{input_def}

abbrev pub decreases-items_fit : goal.decreases-items_fit
decreases-items_fit l = goal.size-items_fit l

abbrev pub decreases-literal_fits : goal.decreases-literal_fits
decreases-literal_fits l = goal.size-literal_fits l

abbrev pub decreases-members_fit : goal.decreases-members_fit
decreases-members_fit l = goal.size-members_fit l

abbrev pub invariant-items_fit-items : goal.invariant-items_fit-items
invariant-items_fit-items l =
    items_fit l.self (vals_of l.values) (Some (ty_of l.item)) ≡ items_fit l.self (vals_of (map value_of (drop l.value-index l.value-items))) (Some (ty_of l.item))

abbrev pub invariant-members_fit-fields : goal.invariant-members_fit-fields
invariant-members_fit-fields l = (is : List InputTree) → l.inputs ≡ map input_def is
    → members_fit l.self (members_of l.fields) (fields is) ≡ members_fit l.self (members_of (map argument_of (drop l.field-index l.field-items))) (fields is)
