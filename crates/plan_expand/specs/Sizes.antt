-- How large values are: how many nodes they have, and how many lists and objects stand in one another.
use Rattle.std.specs.Prelude.{◌+◌, max, List, Option, None}
use Rattle.plan_ir.specs.gql_ast.Value.{Val, Vals, Members, variable, list, object, no_vals, val, no_members, member, members_of, val_depth}
use Rattle.plan_ir.specs.Sizes.{val_count}
use Rattle.plan_ir.specs.Substitution.{value_or}
use Rattle.plan_ir.specs.schema_tables.Types.{Text}
use Rattle.plan_expand.specs.declared.size.Size.{Size}

abbrev pub nothing : Size
nothing = record { count = 0; depth = 0 }

abbrev pub one : Size
one = record { count = 1; depth = 0 }

abbrev pub beside : Size → Size → Size
beside a b = record { count = a.count + b.count; depth = max a.depth b.depth }

abbrev pub within : Size → Size
within a = record { count = a.count + 1; depth = a.depth + 1 }

-- ---- values, where it is known how large the value of each variable is

abbrev mutual
  pub size_in : (Text → Size) → Val → Size
  size_in sizes (variable n) = sizes n
  size_in sizes (list vs) = within (items_size sizes vs)
  size_in sizes (object ms) = within (members_size sizes ms)
  size_in sizes v = one

  pub items_size : (Text → Size) → Vals → Size
  items_size sizes no_vals = nothing
  items_size sizes (val v vs) = beside (size_in sizes v) (items_size sizes vs)

  pub members_size : (Text → Size) → Members → Size
  members_size sizes no_members = nothing
  members_size sizes (member n v ms) = beside (size_in sizes v) (members_size sizes ms)

abbrev pub arguments_size : (Text → Size) → List (Text × Val) → Size
arguments_size sizes xs = members_size sizes (members_of xs)

-- a variable that is no local one is a node
abbrev pub own_sizes : Text → Size
own_sizes n = one

-- a value itself
abbrev pub size_of : Val → Size
size_of v = record { count = val_count v; depth = val_depth v }

-- the default of a local variable, else null
abbrev pub default_size : Option Val → Size
default_size d = size_of (value_or None d)
