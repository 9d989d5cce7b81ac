-- How large an expansion is, as the code finds it: with the sizes of values in place of values.
use Rattle.std.specs.Prelude.{ℕ, zero, suc, ◌+◌, cond, Bool, List, [], ◌∷◌, Option, Some, None, option_map, is_some}
use Rattle.plan_ir.specs.gql_ast.Sels as sels
use Rattle.plan_ir.specs.gql_ast.Sels.{Sels}
use Rattle.plan_ir.specs.gql_ast.Value.{Val}
use Rattle.plan_ir.specs.gql_ast.declared.directive.Directive.{Directive}
use Rattle.plan_ir.specs.gql_graph.Rules.{each}
use Rattle.plan_ir.specs.Additions.{type_or}
use Rattle.plan_ir.specs.Expansion.{is_condition, is_printed}
use Rattle.plan_ir.specs.relay_marks.Connections.{connection_among, value_of_name}
use Rattle.plan_ir.specs.Substitution.{arguments_in}
use Rattle.plan_ir.specs.schema_tables.Types.{Text, Defs, base_of}
use Rattle.plan_ir.specs.schema_types.Sites.{field_type, below, condition_or}
use Rattle.plan_expand.specs.Extents.{both, no_extent, node_extent}
use Rattle.plan_expand.specs.AdditionSizes.{additions_size}
use Rattle.plan_expand.specs.Making.{Find, Ready}
use Rattle.plan_expand.specs.Sizes.{arguments_size, beside, default_size, nothing, one, size_in}
use Rattle.plan_expand.specs.declared.extent.Extent.{Extent}
use Rattle.plan_expand.specs.declared.size.Size.{Size}

abbrev pub Sizes : Type 0
Sizes = Text → Size

-- ---- what a spread gives

-- the size of the value of a variable: that of what is given, else that of the default; a variable that is no local one is a node
abbrev pub gift_size_or : (given local : Option Size) → Size
gift_size_or given None = one
gift_size_or None (Some d) = d
gift_size_or (Some g) (Some d) = g

abbrev pub sizes_at_spread : Sizes → List Directive → (local : Text → Option Size) → Sizes
sizes_at_spread sizes ds local n = gift_size_or (option_map (size_in sizes) (value_of_name (each arguments_in ds) n)) (local n)

abbrev pub ready_sizes : Sizes → List Directive → Ready → Sizes
ready_sizes sizes ds r = sizes_at_spread sizes ds (λ n. option_map default_size (r.locals n))

-- ---- directives that are printed

abbrev pub size_where : (shows : Text → Bool) → Sizes → Directive → Size
size_where shows sizes d = cond (shows d.name) (arguments_size sizes d.arguments) nothing

abbrev pub directives_size : (shows : Text → Bool) → Sizes → List Directive → Size
directives_size shows sizes [] = nothing
directives_size shows sizes (d ∷ ds) = beside (size_where shows sizes d) (directives_size shows sizes ds)

-- the values of all directives
abbrev pub values_size : Sizes → List Directive → Size
values_size sizes [] = nothing
values_size sizes (d ∷ ds) = beside (arguments_size sizes d.arguments) (values_size sizes ds)

-- ---- nodes

abbrev pub field_extent : Defs → Sizes → (level : ℕ) → (around : Option Text) → Text → List (Text × Val) → List Directive → Sels → Extent
field_extent defs sizes level around n xs ds s =
    node_extent level (beside (arguments_size sizes xs) (directives_size is_printed sizes ds)) (additions_size defs (is_some (connection_among ds)) (base_of (type_or (field_type defs around n))) s)

abbrev pub inline_extent : Sizes → (level : ℕ) → List Directive → Extent
inline_extent sizes level ds = node_extent level (directives_size is_printed sizes ds) nothing

abbrev pub spread_extent : Sizes → (level : ℕ) → List Directive → Extent
spread_extent sizes level ds = node_extent level (beside (directives_size is_condition sizes ds) (arguments_size sizes (each arguments_in ds))) nothing

-- ---- sets, all spreads followed

-- what a spread of a name on a level counts for
abbrev pub Enter : Type 0
Enter = Sizes → (level : ℕ) → Text → List Directive → Extent

abbrev pub total_with : Enter → Defs → Sizes → (level : ℕ) → (around : Option Text) → Sels → Extent
total_with enter defs sizes level around sels.end = no_extent
total_with enter defs sizes level around (sels.field a n xs ds s rest) =
    both (both (field_extent defs sizes level around n xs ds s) (total_with enter defs sizes (level + 1) (below defs around n) s))
    (total_with enter defs sizes level around rest)
total_with enter defs sizes level around (sels.spread n ds rest) = both (enter sizes level n ds) (total_with enter defs sizes level around rest)
total_with enter defs sizes level around (sels.inline o ds s rest) =
    both (both (inline_extent sizes level ds) (total_with enter defs sizes (level + 1) (condition_or around o) s)) (total_with enter defs sizes level around rest)

abbrev pub enter_total : (inside : Sizes → ℕ → Option Text → Sels → Extent) → Sizes → (level : ℕ) → Option Ready → List Directive → Extent
enter_total inside sizes level None ds = no_extent
enter_total inside sizes level (Some r) ds = both (spread_extent sizes level ds) (inside (ready_sizes sizes ds r) (level + 1) (Some r.on) r.selections)

-- so many spreads may still be entered, one in another
abbrev pub entering_total : (spreads : ℕ) → Defs → Find → Enter
entering_total zero defs find sizes level n ds = no_extent
entering_total (suc k) defs find sizes level n ds = enter_total (total_with (entering_total k defs find) defs) sizes level (find n) ds

abbrev pub total : (spreads : ℕ) → Defs → Find → Sizes → (level : ℕ) → (around : Option Text) → Sels → Extent
total k defs find = total_with (entering_total k defs find) defs

-- ---- how many spreads are followed

abbrev pub steps_with : (Text → ℕ) → Sels → ℕ
steps_with enter sels.end = 0
steps_with enter (sels.field a n xs ds s rest) = steps_with enter s + steps_with enter rest
steps_with enter (sels.spread n ds rest) = enter n + steps_with enter rest
steps_with enter (sels.inline o ds s rest) = steps_with enter s + steps_with enter rest

abbrev pub enter_steps : (inside : Sels → ℕ) → Option Ready → ℕ
enter_steps inside None = 0
enter_steps inside (Some r) = 1 + inside r.selections

abbrev pub entering_steps : (spreads : ℕ) → Find → Text → ℕ
entering_steps zero find n = 0
entering_steps (suc k) find n = enter_steps (steps_with (entering_steps k find)) (find n)

abbrev pub steps : (spreads : ℕ) → Find → Sels → ℕ
steps k find = steps_with (entering_steps k find)
