use Rattle.std.proofs.Common.{◌==◌, Decides, List, bytes_eq, length, map, subst}
use Rattle.std.specs.List.{IsDistinct}
use Rattle.gql_ast.specs.declared.member.FieldTree.{FieldTree}
use Rattle.schema_tables.proofs.NamesDiffer.{names_differ}
use Rattle.schema_tables.proofs.definitions.TypeFields.differ.Goals as goal
use Rattle.schema_tables.specs.Indexes.{field_name}

pub returns : goal.returns
returns c =
    subst (λ (fs : List FieldTree). Decides (length c.self.inside.names.now == length c.self.inside.trees.now) (IsDistinct bytes_eq (map field_name fs))) c.self.view_is
    (names_differ field_name c.self.inside.trees.now c.self.inside.names.now c.self.invariant)
