-- When selections collect the same, and that the text of an operation collects what the operation does.
use Rattle.std.specs.Prelude.{◌≡◌, ℕ, zero, suc, List, [], ◌∷◌}
use Rattle.std.specs.List.{AllZip}
use Rattle.plan_ir.specs.gql_ast.declared.document.Operation.{Operation}
use Rattle.plan_ir.specs.gql_ast.declared.place.FilePlace.{FilePlace}
use Rattle.plan_ir.specs.Expansion.{Project, whole_operation}
use Rattle.plan_collect.specs.Collection.{Part, Setting, collect, part_of, whole_setting}
use Rattle.plan_collect.specs.Printed.{printed_operation}
use Rattle.plan_ir.specs.schema_tables.Types.{Text}
use Rattle.plan_ir.specs.schema_types.Environments.{Values}
use Rattle.plan_ir.specs.schema_types.Sites.{OperationAt}
use Rattle.plan_ir.specs.store_model.Items.{Ask, Group, asks, groups_at, parts, pointers_on}

-- ---- the same groups

-- the same field, with the same values of its arguments. Its connection does not count: a directive of the client names it, and the text of an
-- operation has none of these
pub record SameAsk (a b : Ask) : Type 0 where
  pub response : a.response ≡ b.response
  pub name : a.name ≡ b.name
  pub arguments : a.arguments ≡ b.arguments
  pub form : a.form ≡ b.form

-- the same fields in the same order; what stands below them is related, all joined
pub record SameGroup (r : List Part → List Part → Type 0) (g h : Group Part) : Type 0 where
  pub fields : AllZip SameAsk (asks g) (asks h)
  pub below : r (parts g) (parts h)

-- on an object type the same groups in the same order, and fields alone: each spread was entered
pub record SameAt (r : List Part → List Part → Type 0) (w : Setting) (T : Text) (fs gs : List Part) : Type 0 where
  pub groups : AllZip (SameGroup r) (groups_at (collect w) T fs) (groups_at (collect w) T gs)
  pub pointers : (pointers_on (collect w) T fs ≡ []) × (pointers_on (collect w) T gs ≡ [])

-- on each object type, and so on below, so many fields deep
abbrev pub CollectTheSame : ℕ → Setting → List Part → List Part → Type 0
CollectTheSame zero w fs gs = Unit {0}
CollectTheSame (suc n) w fs gs = (T : Text) → SameAt (CollectTheSame n w) w T fs gs

-- ---- the law of the text

-- the selections of an operation without spreads
abbrev pub part_of_printed : (own : Values) → Operation → Part
part_of_printed own t = record { spreads = zero; environment = own; selections = t.selections }

-- an operation of the documents, with its additions, and this one collect the same groups in the same order, all the way down: under each
-- environment and on each object type
abbrev pub AsksTheSame : Project → OperationAt → Operation → Type 0
AsksTheSame p o t =
    (place : FilePlace) (own : Values) (depth : ℕ) → CollectTheSame depth (whole_setting p place own) (part_of (whole_setting p place own) o ∷ []) (part_of_printed own t ∷ [])

-- so does the operation that the text is
abbrev pub TextCollectsTheSame : Type 0
TextCollectsTheSame = (p : Project) (o : OperationAt) → AsksTheSame p o (printed_operation (whole_operation p o).expanded)
