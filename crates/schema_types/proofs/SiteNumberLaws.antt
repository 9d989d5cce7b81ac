-- Each number of what stands in documents is below the number of their nodes.
use Rattle.std.proofs.Common.{ℕ, ◌+◌, ◌<◌, ◌≤◌, List, [], ◌∷◌, Option, Some, None, IfSome, arith}
use Rattle.std.specs.List.{AllByRecursion}
use Rattle.schema_rules.specs.gql_ast.Sels as sels
use Rattle.schema_rules.specs.gql_ast.Sels.{Sels, end}
use Rattle.schema_rules.specs.gql_ast.TypeView.{ty_of}
use Rattle.schema_rules.specs.gql_ast.Value.{Val}
use Rattle.schema_rules.specs.gql_ast.declared.directive.Directive.{Directive}
use Rattle.schema_rules.specs.gql_ast.declared.document.Definition.{Definition}
use Rattle.schema_rules.specs.gql_ast.declared.document.Definition.TheVariants as D
use Rattle.schema_rules.specs.gql_ast.declared.document.Document.{Document}
use Rattle.schema_rules.specs.gql_ast.declared.value.ValueTree.{ValueTree}
use Rattle.schema_rules.specs.gql_ast.declared.variable.VariableDef.{VariableDef}
use Rattle.schema_rules.specs.schema_tables.Types.{Text, Defs, root}
use Rattle.schema_rules.proofs.schema_trees_laws.BelowSteps.{all_append}
use Rattle.schema_rules.specs.schema_trees.Located.{value_nodes, type_nodes, default_nodes, directives_nodes}
use Rattle.schema_rules.specs.schema_trees.Numbers.{HoldsName}
use Rattle.schema_types.specs.SiteNumbers.{documents_nodes, HoldsValue, HoldsArgument, HoldsDirective, HoldsVariable, HoldsSite, DefinitionBelow, DefinitionsBelow}
use Rattle.schema_types.specs.Sites.{optional_name_nodes, arguments_nodes, head_nodes, selections_nodes, variable_nodes, variables_nodes, definition_nodes, definitions_nodes, document_nodes, arguments_at, directives_at, value_at, variable_at, variables_at, optional_name_at, below, condition_or, sites, definition_at, definitions_at, documents_at, all_definitions}

module _ (m : ℕ) where
  abbrev F : ℕ → Type 0
  F n = n < m

  abbrev N : Text → ℕ → Type 0
  N t n = n < m

  abbrev V : Val → ℕ → Type 0
  V v n = n + value_nodes v ≤ m

  name_below : (at : ℕ) (o : Option Text) → at + optional_name_nodes o ≤ m → IfSome (optional_name_at at o) (HoldsName N)
  name_below at None h = tt
  name_below at (Some n) h = omega (arith, h)

  value_below : (from : ℕ) (o : Option ValueTree) → from + default_nodes o ≤ m → IfSome (value_at from o) (HoldsValue V)
  value_below from None h = tt
  value_below from (Some v) h = h

  arguments_below : (from : ℕ) (xs : List (Text × Val)) → from + arguments_nodes xs ≤ m → AllByRecursion (HoldsArgument N V) (arguments_at from xs)
  arguments_below from [] h = tt
  arguments_below from (a ∷ more) h =
      let later : from + (2 + value_nodes a.1) + arguments_nodes more ≤ m = omega (arith, h) in
      ((omega (arith, h), omega (arith, h)), arguments_below (from + (2 + value_nodes a.1)) more later)

  directives_below : (from : ℕ) (ds : List Directive) → from + directives_nodes ds ≤ m → AllByRecursion (HoldsDirective N V) (directives_at from ds)
  directives_below from [] h = tt
  directives_below from (d ∷ ds) h =
      let later : from + (2 + arguments_nodes d.arguments) + directives_nodes ds ≤ m = omega (arith, h) in
      ((omega (arith, h), arguments_below (from + 2) d.arguments (omega (arith, h))), directives_below (from + (2 + arguments_nodes d.arguments)) ds later)

  variable_below : (from : ℕ) (v : VariableDef) → from + variable_nodes v ≤ m → HoldsVariable N V (variable_at from v)
  variable_below from v h = (
    omega (arith, h),
    value_below (from + 2 + type_nodes (ty_of v.of)) v.default (omega (arith, h)),
    directives_below (from + 2 + type_nodes (ty_of v.of) + default_nodes v.default) v.directives (omega (arith, h)),
  )

  variables_below : (from : ℕ) (vs : List VariableDef) → from + variables_nodes vs ≤ m → AllByRecursion (HoldsVariable N V) (variables_at from vs)
  variables_below from [] h = tt
  variables_below from (v ∷ vs) h =
      let first : from + variable_nodes v ≤ m = omega (arith, h) in
      let later : from + variable_nodes v + variables_nodes vs ≤ m = omega (arith, h) in
      (variable_below from v first, variables_below (from + variable_nodes v) vs later)

  sites_below : (defs : Defs) (from : ℕ) (around : Option Text) (s : Sels) → from + selections_nodes s ≤ m → AllByRecursion (HoldsSite F N V) (sites defs from around s)
  sites_below defs from around end h = tt
  sites_below defs from around (sels.field a n xs ds s rest) h =
      let inside = from + head_nodes a + arguments_nodes xs + directives_nodes ds in (
        (
          name_below (from + 1) a (omega (arith, h)),
          omega (arith, h),
          arguments_below (from + head_nodes a) xs (omega (arith, h)),
          directives_below (from + head_nodes a + arguments_nodes xs) ds (omega (arith, h)),
        ),
        all_append (HoldsSite F N V) (sites defs inside (below defs around n) s) (sites defs (inside + selections_nodes s) around rest)
            (sites_below defs inside (below defs around n) s (omega (arith, h))) (sites_below defs (inside + selections_nodes s) around rest (omega (arith, h))),
      )
  sites_below defs from around (sels.spread n ds rest) h =
      ((omega (arith, h), directives_below (from + 2) ds (omega (arith, h))), sites_below defs (from + 2 + directives_nodes ds) around rest (omega (arith, h)))
  sites_below defs from around (sels.inline o ds s rest) h =
      let inside = from + 1 + optional_name_nodes o + directives_nodes ds in (
        (omega (arith, h), name_below (from + 1) o (omega (arith, h)), directives_below (from + 1 + optional_name_nodes o) ds (omega (arith, h))),
        all_append (HoldsSite F N V) (sites defs inside (condition_or around o) s) (sites defs (inside + selections_nodes s) around rest)
            (sites_below defs inside (condition_or around o) s (omega (arith, h))) (sites_below defs (inside + selections_nodes s) around rest (omega (arith, h))),
      )

  definition_below : (defs : Defs) (from : ℕ) (d : Definition) → from + definition_nodes d ≤ m → DefinitionBelow m (definition_at defs from d)
  definition_below defs from (D.Operation o) h =
      let variables = from + 2 + optional_name_nodes o.name in
      let directives = variables + variables_nodes o.variables in (
        omega (arith, h),
        name_below (from + 2) o.name (omega (arith, h)),
        variables_below variables o.variables (omega (arith, h)),
        directives_below directives o.directives (omega (arith, h)),
        sites_below defs (directives + directives_nodes o.directives) (root defs o.kind) o.selections (omega (arith, h)),
      )
  definition_below defs from (D.Fragment f) h = (
    omega (arith, h),
    omega (arith, h),
    directives_below (from + 4) f.directives (omega (arith, h)),
    sites_below defs (from + 4 + directives_nodes f.directives) (Some f.on) f.selections (omega (arith, h)),
  )

  definitions_below : (defs : Defs) (from : ℕ) (ds : List Definition) → from + definitions_nodes ds ≤ m → DefinitionsBelow m (definitions_at defs from ds)
  definitions_below defs from [] h = tt
  definitions_below defs from (d ∷ ds) h =
      let first : from + definition_nodes d ≤ m = omega (arith, h) in
      let later : from + definition_nodes d + definitions_nodes ds ≤ m = omega (arith, h) in
      (definition_below defs from d first, definitions_below defs (from + definition_nodes d) ds later)

  -- what stands in documents, from a number on
  pub documents_below : (defs : Defs) (from : ℕ) (ds : List Document) → from + documents_nodes ds ≤ m → DefinitionsBelow m (documents_at defs from ds)
  documents_below defs from [] h = tt
  documents_below defs from (d ∷ ds) h =
      let first : from + 1 + definitions_nodes d.definitions ≤ m = omega (arith, h) in
      let later : from + document_nodes d + documents_nodes ds ≤ m = omega (arith, h) in
      all_append (DefinitionBelow m) (definitions_at defs (from + 1) d.definitions) (documents_at defs (from + document_nodes d) ds)
      (definitions_below defs (from + 1) d.definitions first) (documents_below defs (from + document_nodes d) ds later)

-- all operations and fragments
pub all_below : (defs : Defs) (ds : List Document) → DefinitionsBelow (documents_nodes ds) (all_definitions defs ds)
all_below defs ds = documents_below (documents_nodes ds) defs 0 ds (omega arith)
