use Rattle.std.proofs.Common.{◌≡◌, List, Some, drop}
use Rattle.schema_types.specs.gql_ast.TypeView.{ty_of}
use Rattle.schema_types.specs.gql_ast.declared.member.InputTree.{InputTree}
use Rattle.schema_types.specs.gql_plain.Shown.{plain_trees, shown_members}
use Rattle.schema_types.specs.gql_plain.Tree.{trees_of, members_of}
use Rattle.schema_types.specs.Environments.{items_fit, members_fit}
use Rattle.schema_types.specs.schema_tables.Fits.{fields}
use Rattle.schema_types.specs.schema_tables.Types.{inputs_of}
use Rattle.schema_values.proofs.suited.+fits.Given as goal

abbrev pub invariant-items_fit-items : goal.invariant-items_fit-items
invariant-items_fit-items l =
    items_fit l.schema (trees_of l.items) (Some (ty_of l.of)) ≡ items_fit l.schema (trees_of (plain_trees (drop l.item-index l.item-items))) (Some (ty_of l.of))

abbrev pub invariant-members_fit-members : goal.invariant-members_fit-members
invariant-members_fit-members l = (is : List InputTree) → inputs_of l.schema l.of ≡ Some is
    → members_fit l.schema (members_of l.pairs) (fields is) ≡ members_fit l.schema (members_of (shown_members (drop l.name-index l.name-items))) (fields is)
