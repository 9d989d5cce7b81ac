-- Each number in the definitions of a schema is below the number of its nodes.
use Rattle.std.proofs.Common.{ℕ, ◌+◌, ◌<◌, ◌≤◌, List, [], ◌∷◌, arith}
use Rattle.std.specs.List.{AllByRecursion}
use Rattle.schema_tables.specs.gql_ast.Ty.{Ty}
use Rattle.schema_tables.specs.gql_ast.TypeView.{ty_of}
use Rattle.schema_tables.specs.gql_ast.declared.member.EnumValue.{EnumValue}
use Rattle.schema_tables.specs.gql_ast.declared.member.FieldTree.{FieldTree}
use Rattle.schema_tables.specs.gql_ast.declared.member.InputTree.{InputTree}
use Rattle.schema_tables.specs.gql_ast.declared.schema.Root.{Root}
use Rattle.schema_tables.specs.gql_ast.declared.schema.SchemaDef.{SchemaDef}
use Rattle.schema_tables.specs.gql_ast.declared.schema.SchemaDef.TheVariants as S
use Rattle.schema_tables.specs.gql_graph.Texts.{Text}
use Rattle.schema_trees.specs.Located.{type_at, input_at, inputs_at, field_at, fields_at, names_at, enum_values_at, roots_at, def_at, defs_at, locate, type_nodes, directives_nodes, input_nodes, inputs_nodes, field_nodes, fields_nodes, names_nodes, enum_values_nodes, roots_nodes, def_nodes}
use Rattle.schema_trees.specs.Numbers.{HoldsName, HoldsInput, HoldsField, HoldsRoot, DefBelow, DefsBelow, defs_nodes, schema_nodes}
use Rattle.schema_trees.proofs.LocatedSteps.{type_end}

module _ (m : ℕ) where
  abbrev N : Text → ℕ → Type 0
  N t n = n < m

  abbrev T : Ty → ℕ → Type 0
  T t n = n < m

  type_below : (from : ℕ) (t : Ty) → from + type_nodes t ≤ m → (type_at from t).at < m
  type_below from t h = omega (arith, type_end from t, h)

  input_below : (from : ℕ) (i : InputTree) → from + input_nodes i ≤ m → HoldsInput N T (input_at from i)
  input_below from i h = (omega (arith, h), type_below (from + 2) (ty_of i.of) (omega (arith, h)))

  inputs_below : (from : ℕ) (is : List InputTree) → from + inputs_nodes is ≤ m → AllByRecursion (HoldsInput N T) (inputs_at from is)
  inputs_below from [] h = tt
  inputs_below from (i ∷ is) h =
      let first : from + input_nodes i ≤ m = omega (arith, h) in
      let later : from + input_nodes i + inputs_nodes is ≤ m = omega (arith, h) in
      (input_below from i first, inputs_below (from + input_nodes i) is later)

  field_below : (from : ℕ) (f : FieldTree) → from + field_nodes f ≤ m → HoldsField N T (field_at from f)
  field_below from f h =
      (omega (arith, h), inputs_below (from + 2) f.arguments (omega (arith, h)), type_below (from + 2 + inputs_nodes f.arguments) (ty_of f.of) (omega (arith, h)))

  fields_below : (from : ℕ) (fs : List FieldTree) → from + fields_nodes fs ≤ m → AllByRecursion (HoldsField N T) (fields_at from fs)
  fields_below from [] h = tt
  fields_below from (f ∷ fs) h =
      let first : from + field_nodes f ≤ m = omega (arith, h) in
      let later : from + field_nodes f + fields_nodes fs ≤ m = omega (arith, h) in
      (field_below from f first, fields_below (from + field_nodes f) fs later)

  names_below : (from : ℕ) (ns : List Text) → from + names_nodes ns ≤ m → AllByRecursion (HoldsName N) (names_at from ns)
  names_below from [] h = tt
  names_below from (n ∷ ns) h = (omega (arith, h), names_below (from + 1) ns (omega (arith, h)))

  enum_values_below : (from : ℕ) (xs : List EnumValue) → from + enum_values_nodes xs ≤ m → AllByRecursion (HoldsName N) (enum_values_at from xs)
  enum_values_below from [] h = tt
  enum_values_below from (x ∷ xs) h = (omega (arith, h), enum_values_below (from + 2 + directives_nodes x.directives) xs (omega (arith, h)))

  roots_below : (from : ℕ) (rs : List Root) → from + roots_nodes rs ≤ m → AllByRecursion (HoldsRoot N) (roots_at from rs)
  roots_below from [] h = tt
  roots_below from (r ∷ rs) h = (omega (arith, h), roots_below (from + 2) rs (omega (arith, h)))

  def_below : (from : ℕ) (d : SchemaDef) → from + def_nodes d ≤ m → DefBelow m (def_at from d)
  def_below from (S.Schema ds rs) h = (omega (arith, h), roots_below (from + 1 + directives_nodes ds) rs (omega (arith, h)))
  def_below from (S.Scalar n ds) h = omega (arith, h)
  def_below from (S.Object n is ds fs) h =
      (omega (arith, h), names_below (from + 2) is (omega (arith, h)), fields_below (from + 2 + names_nodes is + directives_nodes ds) fs (omega (arith, h)))
  def_below from (S.Interface n is ds fs) h =
      (omega (arith, h), names_below (from + 2) is (omega (arith, h)), fields_below (from + 2 + names_nodes is + directives_nodes ds) fs (omega (arith, h)))
  def_below from (S.Union n ds ms) h = (omega (arith, h), names_below (from + 2 + directives_nodes ds) ms (omega (arith, h)))
  def_below from (S.Enum n ds vs) h = (omega (arith, h), enum_values_below (from + 2 + directives_nodes ds) vs (omega (arith, h)))
  def_below from (S.Input n ds fs) h = (omega (arith, h), inputs_below (from + 2 + directives_nodes ds) fs (omega (arith, h)))
  def_below from (S.Directive n xs r ls) h = (omega (arith, h), inputs_below (from + 2) xs (omega (arith, h)))

  -- each number in definitions is below what follows the last of them
  pub defs_below : (from : ℕ) (ds : List SchemaDef) → from + defs_nodes ds ≤ m → DefsBelow m (defs_at from ds)
  defs_below from [] h = tt
  defs_below from (d ∷ ds) h =
      let first : from + def_nodes d ≤ m = omega (arith, h) in
      let later : from + def_nodes d + defs_nodes ds ≤ m = omega (arith, h) in
      (def_below from d first, defs_below (from + def_nodes d) ds later)

-- each number in a schema is below the number of its nodes
pub located_below : (ds : List SchemaDef) → DefsBelow (schema_nodes ds) (locate ds)
located_below ds = defs_below (schema_nodes ds) 1 ds (omega arith)
