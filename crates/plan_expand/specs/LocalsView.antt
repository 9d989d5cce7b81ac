-- The local variables that the code keeps, by their names.
use Rattle.std.specs.BTreeMap.{get_by}
use Rattle.std.specs.Cmp.Lexicographic.{slice_cmp}
use Rattle.std.specs.Ordering.{nat_cmp}
use Rattle.std.specs.Prelude.{◌≡◌, cond, List, Option, Some, None, option_map, bytes_eq}
use Rattle.plan_ir.specs.gql_ast.Value.{Val}
use Rattle.plan_ir.specs.gql_ast.ValueView.{value_of}
use Rattle.plan_ir.specs.relay_marks.Locals.{Local}
use Rattle.plan_ir.specs.Substitution.{default_named}
use Rattle.plan_ir.specs.schema_tables.Types.{Text}
use Rattle.plan_expand.specs.declared.local.Local as kept
use Rattle.plan_expand.specs.declared.locals.Locals.{Locals}
use Rattle.plan_expand.specs.declared.size.Size.{Size}

abbrev pub default_view : kept.Local → Option Val
default_view l = option_map value_of l.default

abbrev pub find_local : Locals → Text → Option kept.Local
find_local table n = get_by (λ k. slice_cmp nat_cmp n k.now) table.by_name

-- the default of the local variable of a name, where there is one
abbrev pub find_default : Locals → Text → Option (Option Val)
find_default table n = option_map default_view (find_local table n)

-- the size of its default, or of null
abbrev pub find_local_size : Locals → Text → Option Size
find_local_size table n = option_map (λ (l : kept.Local). l.size) (find_local table n)

-- the table has these local variables
abbrev pub Keeps : Locals → List Local → Type 0
Keeps table ls = (n : Text) → find_default table n ≡ default_named ls n

-- the default under a name alone
abbrev pub default_under : Text → Option Val → Text → Option (Option Val)
default_under m d n = cond (bytes_eq m n) (Some d) None
