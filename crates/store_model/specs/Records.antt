-- A map of records, and putting facts into it.
use Rattle.std.specs.Prelude.{List, [], ◌∷◌, cond, codes, bytes_eq, Option, Some, None, option_and_then, unwrap_or}
use Rattle.std.specs.Cmp.Lexicographic.{slice_cmp}
use Rattle.std.specs.FinMap as map
use Rattle.std.specs.Map.{lookup}
use Rattle.std.specs.Ordering.{nat_cmp}
use Rattle.store_record.specs.gql_plain.declared.plain.Plain.{Plain}
use Rattle.store_record.specs.gql_plain.declared.plain.Plain.TheVariants.{Null, Bool as Truth, Int, Text as Words, List as Listed, Tree as Object}
use Rattle.store_record.specs.Keys.{Text}
use Rattle.store_record.specs.declared.field.Field.{Field}
use Rattle.store_record.specs.declared.field.Field.TheVariants.{Leaf, Link, Links}
use Rattle.store_record.specs.declared.record.Record.{Record}
use Rattle.store_record.specs.declared.record.Slot.{Slot}
use Rattle.store_record.specs.declared.record.Slot.TheVariants.{Deleted, Alive}
use Rattle.store_model.specs.declared.facts.Fact.{Fact}

-- A finite map from id to a deleted or a live record; an id that is not in it is absent.
abbrev pub Records : Type 0
Records = map.FinMap (slice_cmp nat_cmp) Slot

abbrev pub no_records : Records
no_records = map.empty

abbrev pub slot_at : Text → Records → Option Slot
slot_at id m = map.get m id

abbrev pub alive : Slot → Option Record
alive Deleted = None
alive (Alive r) = Some r

-- the live record of an id
abbrev pub live : Text → Records → Option Record
live id m = option_and_then alive (slot_at id m)

-- the records with this slot at an id
abbrev pub with_slot : Text → Slot → Records → Records
with_slot id s m = map.insert m id s

abbrev pub with_record : Text → Record → Records → Records
with_record id r m = with_slot id (Alive r) m

-- the field of a record under a key
abbrev pub field_at : Text → Record → Option Field
field_at key r = lookup (λ k. bytes_eq k key) r.fields

-- the record with this field under a key; the keys stay in byte order
abbrev pub with_field : Text → Field → Record → Record
with_field key f r = record { type_name = r.type_name; fields = map.put (slice_cmp nat_cmp) key f r.fields }

abbrev pub record_of : Text → Record
record_of type_name = record { type_name = type_name; fields = [] }

-- ---- putting facts

abbrev pub typename : Text
typename = codes "__typename"

abbrev pub text_of_plain : Plain → Text
text_of_plain Null = []
text_of_plain (Truth b) = []
text_of_plain (Int z) = []
text_of_plain (Words s) = s
text_of_plain (Listed ts) = []
text_of_plain (Object ms) = []

-- the name that a fact under `__typename` gives
abbrev pub name_given : Field → Text
name_given (Leaf value) = text_of_plain value
name_given (Link id) = []
name_given (Links ids) = []

-- a fact gives a record its type name, or a field
abbrev pub with_fact : Fact → Record → Record
with_fact f r = cond {A = Record} (bytes_eq f.key typename) (record { type_name = name_given f.value; fields = r.fields }) (with_field f.key f.value r)

-- the record of an id is live afterwards; it starts without fields where it was absent or deleted
abbrev pub put_fact : Fact → Records → Records
put_fact f m = with_record f.id (with_fact f (unwrap_or (live f.id m) (record_of []))) m

abbrev pub put : List Fact → Records → Records
put [] m = m
put (f ∷ fs) m = put fs (put_fact f m)
