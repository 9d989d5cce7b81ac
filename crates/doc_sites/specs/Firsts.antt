-- Parts of what stands in documents: a name and a value alone, and one selection apart from those inside it and behind it.
use Rattle.std.specs.Prelude.{ℕ, ◌+◌, Option}
use Rattle.schema_types.specs.gql_ast.Sels.{Sels, end}
use Rattle.schema_types.specs.gql_ast.declared.document.Fragment.{Fragment}
use Rattle.schema_types.specs.gql_ast.declared.document.Operation.{Operation}
use Rattle.schema_types.specs.gql_ast.declared.selection.Selection.{Selection}
use Rattle.schema_types.specs.gql_ast.declared.selection.Selection.TheVariants as S
use Rattle.schema_types.specs.gql_ast.Value.{Val}
use Rattle.schema_types.specs.schema_trees.Located.{Located, directives_nodes}
use Rattle.schema_types.specs.Sites.{ValueAt, Site, field, spread, inline, optional_name_nodes, optional_name_at, variables_nodes, selections_nodes, arguments_nodes, head_nodes, arguments_at, directives_at, is_set, below, condition_or}
use Rattle.schema_types.specs.schema_tables.Types.{Text, Defs}

-- a name, and a value, whose own node comes next
abbrev pub name_here : (from : ℕ) → Text → Located
name_here from n = record { name = n; at = from }

abbrev pub value_here : (from : ℕ) → Val → ValueAt
value_here from v = record { of = v; at = from }

-- the node behind a selection's name, arguments and directives
abbrev pub past_first : (from : ℕ) → Selection → ℕ
past_first from (S.Field a n xs ds s) = from + head_nodes a + arguments_nodes xs + directives_nodes ds
past_first from (S.Spread n ds) = from + 2 + directives_nodes ds
past_first from (S.Inline o ds s) = from + 1 + optional_name_nodes o + directives_nodes ds

abbrev pub first_site : (from : ℕ) → (around : Option Text) → Selection → Site
first_site from around (S.Field a n xs ds s) =
    field around (optional_name_at (from + 1) a) (record { name = n; at = from + 1 + optional_name_nodes a })
    (arguments_at (from + head_nodes a) xs) (directives_at (from + head_nodes a + arguments_nodes xs) ds) (is_set s)
first_site from around (S.Spread n ds) = spread around (record { name = n; at = from + 1 }) (directives_at (from + 2) ds)
first_site from around (S.Inline o ds s) =
    inline around from (optional_name_at (from + 1) o) (directives_at (from + 1 + optional_name_nodes o) ds)

-- the selections inside a selection
abbrev pub inside : Selection → Sels
inside (S.Field a n xs ds s) = s
inside (S.Spread n ds) = end
inside (S.Inline o ds s) = s

-- the type around them
abbrev pub around_inside : Defs → (around : Option Text) → Selection → Option Text
around_inside defs around (S.Field a n xs ds s) = below defs around n
around_inside defs around (S.Spread n ds) = around
around_inside defs around (S.Inline o ds s) = condition_or around o

abbrev pub operation_nodes : Operation → ℕ
operation_nodes o = 2 + optional_name_nodes o.name + variables_nodes o.variables + directives_nodes o.directives + selections_nodes o.selections

abbrev pub fragment_nodes : Fragment → ℕ
fragment_nodes f = 4 + directives_nodes f.directives + selections_nodes f.selections
