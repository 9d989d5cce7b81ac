-- The fields of a row, in order or torn.
use Rattle.std.specs.Prelude.{◌≡◌, ◌<◌, ◌+◌, ℕ, Bool, false, List, get_or, length}
use Rattle.std.specs.Map.{keys_of}
use Rattle.std.specs.Ordering.{is_lt}
use Rattle.gql_order.specs.gql_plain.Order.{AreInOrder}
use Rattle.gql_order.specs.gql_plain.declared.plain.Plain.TheVariants.{Text as Words}
use Rattle.store_model.specs.store_record.Equal.{entry_eq, field_eq}
use Rattle.store_model.specs.store_record.Keys.{Text}
use Rattle.store_model.specs.store_record.declared.field.Field.{Field}
use Rattle.store_model.specs.store_record.declared.field.Field.TheVariants.{Leaf}
use Rattle.store_model.specs.Alike.{Among}
use Rattle.store_model.specs.FactOrder.{text_cmp}
use Rattle.store_model.specs.Records.{typename}
use Rattle.store_report.specs.declared.row_fields.Ordered.{Ordered}
use Rattle.store_report.specs.declared.row_fields.Ordered.TheVariants.{Whole, Torn}

-- one key has two values
pub record AreTorn (es : List (Text × Field)) : Type 0 where
  pub key : Text
  pub one : Field
  pub other : Field
  pub here : Among (key, one) es
  pub there : Among (key, other) es
  pub differ : field_eq one other ≡ false

abbrev pub entries_of : Ordered → List (Text × Field)
entries_of (Whole fields) = fields
entries_of (Torn fields) = fields.items

abbrev pub IsOrdered : Ordered → Type 0
IsOrdered (Whole fields) = AreInOrder (keys_of fields)
IsOrdered (Torn fields) = AreTorn fields.items

-- one of the fields has the key of the name of a type
pub record HasTypeKey (es : List (Text × Field)) : Type 0 where
  pub value : Field
  pub there : Among (typename, value) es

-- a key that does not stand before the one behind it
pub record DoFall (es : List (Text × Field)) : Type 0 where
  pub at : ℕ
  pub within : at + 1 < length es
  pub fall : (e : Text × Field) → is_lt (text_cmp (get_or es at e).0 (get_or es (at + 1) e).0) ≡ false

-- it is the field of the name of a type
abbrev pub says_name : Text → Text × Field → Bool
says_name name e = entry_eq e (typename, Leaf (Words name))

-- the members that do not say the name of the type
abbrev pub AreOthers : Text → List (Text × Field) → List (Text × Field) → Type 0
AreOthers name left all = (e : Text × Field) → (Among e left → Among e all × (says_name name e ≡ false)) × (Among e all → says_name name e ≡ false → Among e left)
