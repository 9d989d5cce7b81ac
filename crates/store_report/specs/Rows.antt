-- Facts of one record as they come, in order of their keys: a row that is still open.
use Rattle.std.specs.Prelude.{◌≡◌, Bool, true, false, List, [], ◌∷◌, ◌++◌, map, bytes_eq, Option, Some, None, is_some}
use Rattle.std.specs.FinMap.Entries.{put as put_entry}
use Rattle.std.specs.List.{AllByRecursion}
use Rattle.std.specs.declared.cmp.Ordering.TheVariants.{Less}
use Rattle.gql_order.specs.gql_plain.Names.{is_name}
use Rattle.gql_order.specs.gql_plain.Order.{member_at}
use Rattle.gql_order.specs.gql_plain.declared.plain.Plain.TheVariants.{Text as Words}
use Rattle.store_model.specs.store_record.Keys.{Text}
use Rattle.store_model.specs.store_record.declared.field.Field.{Field}
use Rattle.store_model.specs.store_record.declared.field.Field.TheVariants.{Leaf}
use Rattle.store_model.specs.FactOrder.{text_cmp}
use Rattle.store_model.specs.FactRows.{fact_at}
use Rattle.store_model.specs.Records.{typename}
use Rattle.store_model.specs.declared.facts.Fact.{Fact}
use Rattle.store_report.specs.Gathering.{IsTypeName}
use Rattle.store_report.specs.declared.rows.OpenRow.{OpenRow}

abbrev pub with_name : Option Text → List (Text × Field) → List (Text × Field)
with_name None fields = fields
with_name (Some name) fields = put_entry text_cmp typename (Leaf (Words name)) fields

-- the keys and values of a row, the name of its type among them
abbrev pub entries_of : OpenRow → List (Text × Field)
entries_of r = with_name r.type_name r.fields

abbrev pub shown : OpenRow → List Fact
shown r = map (fact_at r.id) (entries_of r)

abbrev pub is_filled : List (Text × Field) → Bool
is_filled [] = false
is_filled (e ∷ es) = true

abbrev pub shown_some : Option OpenRow → List Fact
shown_some None = []
shown_some (Some r) = shown r

abbrev pub IsNameOrNone : Option Text → Type 0
IsNameOrNone None = Unit {0}
IsNameOrNone (Some name) = is_name name ≡ true

-- facts of lesser ids
abbrev pub AreBefore : Text → List Fact → Type 0
AreBefore id facts = AllByRecursion (λ f. text_cmp f.id id ≡ Less) facts

-- the name of the type stands for itself alone, and the row stands after others
pub record IsOpen (facts : List Fact) (r : OpenRow) : Type 0 where
  pub apart : member_at r.fields typename ≡ None
  pub named : IsNameOrNone r.type_name
  pub after : AreBefore r.id facts

-- the same, where a row is begun, and it has keys
abbrev pub IsOpenAt : List Fact → Option OpenRow → Type 0
IsOpenAt facts None = facts ≡ []
IsOpenAt facts (Some r) = IsOpen facts r × (is_filled (entries_of r) ≡ true)

-- a key and a value may be put behind those of a row
pub record CanPut (r : OpenRow) (key : Text) (value : Field) : Type 0 where
  pub name : bytes_eq key typename ≡ true → IsTypeName value
  pub last : AllByRecursion (λ e. text_cmp e.0 key ≡ Less) (entries_of r)

-- a fact may be put behind an open row: to it, where it is of its id, else to a row of its own behind it
pub record CanTake (facts : List Fact) (r : OpenRow) (f : Fact) : Type 0 where
  pub name : bytes_eq f.key typename ≡ true → IsTypeName f.value
  pub row : IsOpen facts r
  pub same : bytes_eq r.id f.id ≡ true → AllByRecursion (λ e. text_cmp e.0 f.key ≡ Less) (entries_of r)
  pub closed : bytes_eq r.id f.id ≡ false → is_some r.type_name ≡ true
  pub after : bytes_eq r.id f.id ≡ false → AreBefore f.id (facts ++ shown r)

abbrev pub CanTakeFirst : Fact → Type 0
CanTakeFirst f = bytes_eq f.key typename ≡ true → IsTypeName f.value

abbrev pub CanTakeAt : List Fact → Option OpenRow → Fact → Type 0
CanTakeAt facts None f = (facts ≡ []) × CanTakeFirst f
CanTakeAt facts (Some r) f = CanTake facts r f
