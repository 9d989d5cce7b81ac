-- Facts by rows: one row for each id, with the name of its type and its other fields.
use Rattle.std.specs.Prelude.{◌≡◌, true, List, [], ◌∷◌, ◌++◌, map, None, unwrap_or}
use Rattle.std.specs.FinMap.Entries.{put as put_entry}
use Rattle.std.specs.List.{AllByRecursion}
use Rattle.std.specs.List.Sorted.{IsStrictlySortedBy}
use Rattle.std.specs.Map.{keys_of}
use Rattle.std.specs.declared.cmp.Ordering.TheVariants.{Less}
use Rattle.store_record.specs.gql_plain.Order.{AreInOrder, member_at}
use Rattle.store_record.specs.gql_plain.declared.plain.Plain.TheVariants.{Text as Words}
use Rattle.store_record.specs.gql_plain.Names.{is_name}
use Rattle.store_record.specs.Keys.{Text}
use Rattle.store_record.specs.declared.field.Field.{Field}
use Rattle.store_record.specs.declared.field.Field.TheVariants.{Leaf}
use Rattle.store_model.specs.FactOrder.{text_cmp, fact_cmp}
use Rattle.store_record.specs.declared.record.Record.{Record}
use Rattle.store_model.specs.Records.{Records, typename, live, with_record, record_of}
use Rattle.store_model.specs.declared.facts.Fact.{Fact}
use Rattle.store_model.specs.declared.facts.FactRow.{FactRow}

abbrev pub fact_at : Text → Text × Field → Fact
fact_at id field = record { id = id; key = field.0; value = field.1 }

-- the fields of a row, the name of its type among them
abbrev pub fields_of : FactRow → List (Text × Field)
fields_of r = put_entry text_cmp typename (Leaf (Words r.type_name)) r.fields

abbrev pub facts_of_row : FactRow → List Fact
facts_of_row r = map (fact_at r.id) (fields_of r)

-- the facts of rows, row by row
abbrev pub facts_of : List FactRow → List Fact
facts_of [] = []
facts_of (r ∷ rs) = facts_of_row r ++ facts_of rs

-- the name of the type is a Name, and stands for itself alone
pub record IsFactRow (r : FactRow) : Type 0 where
  pub named : is_name r.type_name ≡ true
  pub apart : member_at r.fields typename ≡ None

-- rows in byte order of their ids
pub record AreFactRows (rows : List FactRow) : Type 0 where
  pub order : IsStrictlySortedBy (λ a b. text_cmp a.id b.id) rows
  pub each : AllByRecursion IsFactRow rows

-- the fields of each row in byte order of their keys, as those of a record are
abbrev pub HaveFieldsInOrder : List FactRow → Type 0
HaveFieldsInOrder rows = AllByRecursion (λ r. AreInOrder (keys_of r.fields)) rows

-- the facts of rows rise by id and then by key
abbrev pub FactsAreInOrder : Type 0
FactsAreInOrder = (rows : List FactRow) → AreFactRows rows → HaveFieldsInOrder rows → IsStrictlySortedBy fact_cmp (facts_of rows)

-- the row stands after each fact of the list
abbrev pub IsRowAfter : FactRow → List Fact → Type 0
IsRowAfter r facts = AllByRecursion (λ before. text_cmp before.id r.id ≡ Less) facts

-- ---- putting a row

-- fields, put one after another
abbrev pub with_fields : List (Text × Field) → List (Text × Field) → List (Text × Field)
with_fields [] fields = fields
with_fields (f ∷ fs) fields = with_fields fs (put_entry text_cmp f.0 f.1 fields)

-- the record of an id with the name of its type, and the fields of a row put into its own
abbrev pub row_onto : FactRow → Record → Record
row_onto r old = record { type_name = r.type_name; fields = with_fields r.fields old.fields }

-- the records with a row; a record that is absent or deleted starts without fields
abbrev pub with_row : FactRow → Records → Records
with_row r m = with_record r.id (row_onto r (unwrap_or (live r.id m) (record_of []))) m

-- rows, one after another
abbrev pub put_rows : List FactRow → Records → Records
put_rows [] m = m
put_rows (r ∷ rs) m = put_rows rs (with_row r m)
