-- Sound records, entries that keep them so, and commands that a line can give (this project's own). `object` tells the object types of a schema.
use Rattle.std.specs.Prelude.{◌≡◌, Bool, true, false, ◌&&◌, ◌||◌, List, [], ◌∷◌, codes, bytes_eq, nat_eq, Option, Some, None}
use Rattle.std.specs.List.{AllByRecursion, list_any, starts_with}
use Rattle.std.specs.List.Sorted.{IsStrictlySortedBy}
use Rattle.std.specs.Map.{keys_of}
use Rattle.store_model.specs.gql_plain.Order.{AreInOrder}
use Rattle.store_model.specs.gql_plain.declared.plain.Plain.TheVariants.{Null, Text as Words}
use Rattle.store_model.specs.store_record.Keys.{Text, root}
use Rattle.store_model.specs.store_record.declared.field.Field.{Field}
use Rattle.store_model.specs.store_record.declared.field.Field.TheVariants.{Leaf}
use Rattle.store_model.specs.store_record.declared.record.Record.{Record}
use Rattle.store_model.specs.store_record.declared.record.Slot.{Slot}
use Rattle.store_model.specs.store_record.declared.record.Slot.TheVariants.{Deleted, Alive}
use Rattle.store_model.specs.Entries.{ids_in, some_id, some_ids}
use Rattle.store_model.specs.Events.{is_field_name}
use Rattle.store_model.specs.FactOrder.{AreHandlesInOrder, fact_cmp}
use Rattle.store_model.specs.Records.{Records, slot_at, typename}
use Rattle.store_model.specs.Said.{Said}
use Rattle.store_model.specs.declared.command.Command.{Command}
use Rattle.store_model.specs.declared.command.Command.TheVariants as C
use Rattle.store_model.specs.declared.command.EdgeEdit.{EdgeEdit}
use Rattle.store_model.specs.declared.entry.Entry.{Entry}
use Rattle.store_model.specs.declared.facts.Fact.{Fact}
use Rattle.store_model.specs.declared.facts.HandleFact.{HandleFact}

-- ---- records

-- no id is empty
abbrev pub IsId : Text → Type 0
IsId [] = ⊥
IsId (b ∷ bs) = Unit {0}

-- the name of an object type, or that of the root's record
abbrev pub is_record_type : (object : Text → Bool) → Text → Bool
is_record_type object name = object name || bytes_eq name (codes "__Root")

-- a field does not stand under the key of the type name, and what it links to are ids
abbrev pub IsSoundField : Text × Field → Type 0
IsSoundField f = (bytes_eq f.0 typename ≡ false) × AllByRecursion IsId (ids_in f.1)

pub record IsSoundRecord (object : Text → Bool) (row : Record) : Type 0 where
  pub named : is_record_type object row.type_name ≡ true
  pub fields : AllByRecursion IsSoundField row.fields
  pub order : AreInOrder (keys_of row.fields)

-- the record of the root is not deleted
abbrev pub IsSoundSlot : (object : Text → Bool) → Text → Slot → Type 0
IsSoundSlot object id Deleted = bytes_eq id root ≡ false
IsSoundSlot object id (Alive row) = IsSoundRecord object row

abbrev pub IsSoundAt : (object : Text → Bool) → Text → Option Slot → Type 0
IsSoundAt object id None = Unit {0}
IsSoundAt object id (Some slot) = IsId id × IsSoundSlot object id slot

pub record AreSound (object : Text → Bool) (m : Records) : Type 0 where
  pub each : (id : Text) → IsSoundAt object id (slot_at id m)

-- ---- entries

-- whether facts say something of an id under a key
abbrev pub has_fact : List Fact → Text → Text → Bool
has_fact facts id key = list_any (λ f. bytes_eq f.id id && bytes_eq f.key key) facts

-- under the key of the type name stands the name of such a type, under every other key no empty id
abbrev pub IsSoundValue : (object : Text → Bool) → (is_name : Bool) → Field → Type 0
IsSoundValue object true value = (name : Text) × (value ≡ Leaf (Words name)) × (is_record_type object name ≡ true)
IsSoundValue object false value = AllByRecursion IsId (ids_in value)

-- the facts say the type of each id of which they say something
pub record IsSoundFact (object : Text → Bool) (facts : List Fact) (f : Fact) : Type 0 where
  pub of : IsId f.id
  pub typed : has_fact facts f.id typename ≡ true
  pub value : IsSoundValue object (bytes_eq f.key typename) f.value

-- the page has its fact, and its handle key is that of a connection
pub record IsSoundPage (object : Text → Bool) (facts : List Fact) (h : HandleFact) : Type 0 where
  pub there : has_fact facts h.parent h.field_key ≡ true
  pub handle : starts_with nat_eq h.handle_key (codes "__") ≡ true
  pub apart : bytes_eq h.handle_key typename ≡ false
  pub page : object h.page_type ≡ true
  pub info : object h.info_type ≡ true

-- the facts and pages of a payload, each in its order: no two facts are of one id and key
pub record IsSoundSaid (object : Text → Bool) (said : Said) : Type 0 where
  pub facts : AllByRecursion (IsSoundFact object said.facts) said.facts
  pub pages : AllByRecursion (IsSoundPage object said.facts) said.handles
  pub facts_order : IsStrictlySortedBy fact_cmp said.facts
  pub pages_order : AreHandlesInOrder said.handles

-- a command that a line can give: its fields have names that a schema may give, its ids are not empty, and it neither makes nor deletes the
-- record of the root; what takes an edge out has neither a type nor a cursor for one
pub record IsGivenEdit (e : EdgeEdit) : Type 0 where
  pub of : IsId e.id
  pub key : is_field_name e.key ≡ true
  pub node : IsId e.node

abbrev pub IsGiven : Command → Type 0
IsGiven (C.Set id field args value) = IsId id × (is_field_name field ≡ true)
IsGiven (C.Add id field args by) = IsId id × (is_field_name field ≡ true)
IsGiven (C.Link id field args to) = IsId id × (is_field_name field ≡ true) × AllByRecursion IsId (some_id to)
IsGiven (C.Links id field args to) = IsId id × (is_field_name field ≡ true) × AllByRecursion IsId (some_ids to)
IsGiven (C.Create id of) = IsId id × (bytes_eq id root ≡ false)
IsGiven (C.Delete id) = IsId id × (bytes_eq id root ≡ false)
IsGiven (C.AppendNode e) = IsGivenEdit e
IsGiven (C.PrependNode e) = IsGivenEdit e
IsGiven (C.DeleteEdge e) = IsGivenEdit e × (e.edge_type ≡ []) × (e.cursor ≡ Null)

-- the types that a command names are object types
abbrev pub NamesTypes : (object : Text → Bool) → Command → Type 0
NamesTypes object (C.Set id field args value) = Unit {0}
NamesTypes object (C.Add id field args by) = Unit {0}
NamesTypes object (C.Link id field args to) = Unit {0}
NamesTypes object (C.Links id field args to) = Unit {0}
NamesTypes object (C.Create id of) = object of ≡ true
NamesTypes object (C.Delete id) = Unit {0}
NamesTypes object (C.AppendNode e) = object e.edge_type ≡ true
NamesTypes object (C.PrependNode e) = object e.edge_type ≡ true
NamesTypes object (C.DeleteEdge e) = Unit {0}

abbrev pub IsSoundCommand : (object : Text → Bool) → Command → Type 0
IsSoundCommand object c = IsGiven c × NamesTypes object c

pub record IsSoundEntry (object : Text → Bool) (e : Entry) : Type 0 where
  pub said : IsSoundSaid object e.facts
  pub commands : AllByRecursion (IsSoundCommand object) e.commands
