-- Rows of one id that are joined to one.
use Rattle.std.specs.Prelude.{◌≡◌, ◌⊎◌, ◌&&◌, Bool, true, false, List, [], ◌∷◌, ◌++◌, map, Option, Some, None, bytes_eq}
use Rattle.std.specs.declared.cmp.Ordering.TheVariants.{Greater}
use Rattle.gql_order.specs.gql_plain.Names.{is_name}
use Rattle.gql_order.specs.gql_plain.Order.{AreInOrder, member_at}
use Rattle.store_model.specs.store_record.Equal.{fields_eq}
use Rattle.store_model.specs.store_record.Keys.{Text}
use Rattle.store_model.specs.FactOrder.{text_cmp}
use Rattle.store_model.specs.FactRows.{facts_of_row}
use Rattle.store_model.specs.Records.{typename}
use Rattle.store_model.specs.declared.facts.Fact.{Fact}
use Rattle.store_model.specs.declared.facts.FactRow.{FactRow}
use Rattle.store_report.specs.ObjectRows.{HaveClash, IsWhole, object_facts}
use Rattle.store_report.specs.declared.object_row.BegunRow.{BegunRow}
use Rattle.store_report.specs.declared.object_row.ObjectRow.{ObjectRow}
use Rattle.store_report.specs.declared.object_row.ObjectRow.TheVariants.{Whole, Torn}

-- the facts of a row to which those of others are put
abbrev pub begun_facts : Option BegunRow → List Fact
begun_facts None = []
begun_facts (Some b) = object_facts b.id b.type_name b.fields.items

-- the name of its type is a Name, which no field says again
pub record IsApart (b : BegunRow) : Type 0 where
  pub name : is_name b.type_name ≡ true
  pub fields : member_at b.fields.items typename ≡ None

abbrev pub IsBegunApart : Option BegunRow → Type 0
IsBegunApart None = Unit {0}
IsBegunApart (Some b) = IsApart b

-- the name of its type is no Name, or a field has two values
abbrev pub IsTorn : BegunRow → Type 0
IsTorn b = (is_name b.type_name ≡ false) ⊎ HaveClash (begun_facts (Some b))

abbrev pub torn_facts : List BegunRow → List Fact
torn_facts [] = []
torn_facts (b ∷ bs) = begun_facts (Some b) ++ torn_facts bs

abbrev pub row_facts : ObjectRow → List Fact
row_facts (Whole row) = facts_of_row row
row_facts (Torn b) = begun_facts (Some b)

abbrev pub IsObjectRow : ObjectRow → Type 0
IsObjectRow (Whole row) = IsWhole row
IsObjectRow (Torn b) = IsTorn b

-- one id, one type and equal fields
abbrev pub row_eq : FactRow → FactRow → Bool
row_eq a b = bytes_eq a.id b.id && bytes_eq a.type_name b.type_name && fields_eq a.fields b.fields

-- ---- the order of what is done and what is begun

abbrev pub row_id : FactRow → Text
row_id r = r.id

-- the ids of the rows that are done, and that of the one that is begun, rise; it does not stand behind an id
abbrev pub IsBegunBelow : List FactRow → Option BegunRow → Text → Type 0
IsBegunBelow whole None id = whole ≡ []
IsBegunBelow whole (Some b) id = AreInOrder (map row_id whole ++ b.id ∷ []) × (text_cmp b.id id ≡ Greater → ⊥)

-- the same, where the row that is begun has the id
abbrev pub IsBegunAt : List FactRow → Option BegunRow → Text → Type 0
IsBegunAt whole None id = ⊥
IsBegunAt whole (Some b) id = AreInOrder (map row_id whole ++ b.id ∷ []) × (b.id ≡ id)
