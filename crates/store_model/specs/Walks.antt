-- Reading: the data that a walk along records gives, and what the walk meets.
use Rattle.std.specs.Prelude.{ℕ, zero, suc, Bool, true, false, ◌||◌, List, [], ◌∷◌, ◌++◌, length, cond, bytes_eq, codes, Option, Some, None, unwrap_or}
use Rattle.std.specs.Cmp.Lexicographic.{slice_cmp}
use Rattle.std.specs.FinMap as map
use Rattle.std.specs.Ordering.{nat_cmp}
use Rattle.store_record.specs.gql_plain.Order.{has_text, sorted_texts}
use Rattle.store_record.specs.gql_plain.Shown.{tree_of}
use Rattle.store_record.specs.gql_plain.Tree.{Tree, null, text, list, object, trees_of, members_of}
use Rattle.store_record.specs.gql_plain.declared.plain.Plain.{Plain}
use Rattle.store_record.specs.gql_plain.declared.plain.Plain.TheVariants.{Null, Bool as Truth, Int, Text as Words, List as Listed, Tree as Object}
use Rattle.store_record.specs.Keys.{Text, Arguments}
use Rattle.store_record.specs.declared.field.Field.{Field}
use Rattle.store_record.specs.declared.field.Field.TheVariants.{Leaf, Link, Links}
use Rattle.store_record.specs.declared.record.Slot.{Slot}
use Rattle.store_record.specs.declared.record.Slot.TheVariants.{Deleted, Alive}
use Rattle.store_model.specs.Items.{Form, typename, leaf, one, many, Ask, key_of, handle_of, Pointer, Group, parts, Collect, groups_at, pointers_on}
use Rattle.store_model.specs.Records.{field_at}

-- ---- slots

-- the slot of each id, none where the id is absent
abbrev pub Slots : Type 0
Slots = Text → Option Slot

-- the field under each key, none where the key is not stored
abbrev pub Fields : Type 0
Fields = Text → Option Field

-- how an id stands: absent, deleted, or live with a type name
pub data Standing : Type 0 where
  absent : Standing
  gone : Standing
  lives : (type_name : Text) → Standing

abbrev pub standing_of : Option Slot → Standing
standing_of None = absent
standing_of (Some Deleted) = gone
standing_of (Some (Alive r)) = lives r.type_name

-- the fields of a slot; an absent or a deleted record has none
abbrev pub field_of : Option Slot → Fields
field_of None key = None
field_of (Some Deleted) key = None
field_of (Some (Alive r)) key = field_at key r

-- a record's type by its type name: the record of the root, which all operations share, has the root type of the operation
abbrev pub type_of_record : (operation_type : Text) → Text → Text
type_of_record T name = cond (bytes_eq name (codes "__Root")) T name

-- ---- what a walk meets

-- a pointer that a read gives: its fragment, the id where it stands, and the values of the fragment's local variables
pub record Issued : Type 0 where
  pub fragment : Text
  pub id : Text
  pub scope : Arguments

-- whether something was missing, the ids stood at, the fields looked at, and the pointers given, each as often as it was met
pub record Trace : Type 0 where
  pub missing : Bool
  pub seen : List Text
  pub looked : List (Text × Text)
  pub issued : List Issued

-- nothing met
abbrev pub still : Trace
still = record { missing = false; seen = []; looked = []; issued = [] }

-- something missing
abbrev pub missing_trace : Trace
missing_trace = record { missing = true; seen = []; looked = []; issued = [] }

-- one id stood at
abbrev pub trace_at : Text → Trace
trace_at id = record { missing = false; seen = id ∷ []; looked = []; issued = [] }

-- one id stood at, and the record missing
abbrev pub stood_lost : Text → Trace
stood_lost id = record { missing = true; seen = id ∷ []; looked = []; issued = [] }

-- one field looked at
abbrev pub looked_at : Text → Text → Trace
looked_at id key = record { missing = false; seen = []; looked = (id, key) ∷ []; issued = [] }

-- one pointer given
abbrev pub issue : {F : Type 0} → Text → Pointer F → Trace
issue id p = record { missing = false; seen = []; looked = []; issued = record { fragment = p.fragment; id = id; scope = p.scope } ∷ [] }

-- what two walks meet, one after the other
abbrev pub join_traces : Trace → Trace → Trace
join_traces s t = record { missing = s.missing || t.missing; seen = s.seen ++ t.seen; looked = s.looked ++ t.looked; issued = s.issued ++ t.issued }

-- ---- what a read gives

-- the data, none where it is missing, and what was met
abbrev pub Found : Type 0
Found = Option Tree × Trace

-- the members of an object in byte order of their keys
abbrev pub Shown : Type 0
Shown = List (Text × Tree)

abbrev pub shown_object : Shown → Tree
shown_object ms = object (members_of ms)

-- the members with a value under its key
abbrev pub with_value : Text → Tree → Shown → Shown
with_value key t ms = map.put (slice_cmp nat_cmp) key t ms

-- the members with a value under its key; a missing value is left out
abbrev pub with_found : Text → Option Tree → Shown → Shown
with_found key None ms = ms
with_found key (Some t) ms = with_value key t ms

-- a missing element of a list, and missing data at the top, are null
abbrev pub or_null : Option Tree → Tree
or_null d = unwrap_or d null

-- how parts are read at an id whose possible types are given
abbrev pub Next : Type 0 → Type 0
Next F = (types : List Text) → List F → (id : Text) → Found

-- what a read answers: the data as a value, null where it is missing, whether something was missing, and the ids stood at, each once
pub record Reading : Type 0 where
  pub value : Tree
  pub missing : Bool
  pub seen : List Text

abbrev pub reading : Found → Reading
reading r = record { value = or_null r.0; missing = r.1.missing; seen = sorted_texts r.1.seen }

-- how often a read stands at a record
abbrev pub standings : Found → ℕ
standings r = length r.1.seen

-- ---- fields

-- the value of a leaf that stands under a field of objects: only null does
abbrev pub null_alone : Plain → Found
null_alone Null = (Some null, still)
null_alone (Truth b) = (None, missing_trace)
null_alone (Int z) = (None, missing_trace)
null_alone (Words s) = (None, missing_trace)
null_alone (Listed ts) = (None, missing_trace)
null_alone (Object ms) = (None, missing_trace)

abbrev pub leaf_at : Option Field → Found
leaf_at None = (None, missing_trace)
leaf_at (Some (Leaf value)) = (Some (tree_of value), still)
leaf_at (Some (Link id)) = (None, missing_trace)
leaf_at (Some (Links ids)) = (None, missing_trace)

abbrev pub one_at : {F : Type 0} → Next F → List Text → List F → Option Field → Found
one_at next types fs None = (None, missing_trace)
one_at next types fs (Some (Leaf value)) = null_alone value
one_at next types fs (Some (Link id)) = next types fs id
one_at next types fs (Some (Links ids)) = (None, missing_trace)

-- an element is null where the list has none, and where it is missing
abbrev pub element_at : {F : Type 0} → Next F → List Text → List F → Option Text → Tree × Trace
element_at next types fs None = (null, still)
element_at next types fs (Some id) = (or_null (next types fs id).0, (next types fs id).1)

abbrev pub elements_at : {F : Type 0} → Next F → List Text → List F → List (Option Text) → List Tree × Trace
elements_at next types fs [] = ([], still)
elements_at next types fs (e ∷ es) = (
  (element_at next types fs e).0 ∷ (elements_at next types fs es).0,
  join_traces (element_at next types fs e).1 (elements_at next types fs es).1,
)

abbrev pub list_found : List Tree × Trace → Found
list_found r = (Some (list (trees_of r.0)), r.1)

abbrev pub many_at : {F : Type 0} → Next F → List Text → List F → Option Field → Found
many_at next types fs None = (None, missing_trace)
many_at next types fs (Some (Leaf value)) = null_alone value
many_at next types fs (Some (Link id)) = (None, missing_trace)
many_at next types fs (Some (Links ids)) = list_found (elements_at next types fs ids)

-- a field by its form; the type name is that of the record
abbrev pub value_at : {F : Type 0} → Next F → Text → List F → Form → Option Field → Found
value_at next T fs typename field = (Some (text T), still)
value_at next T fs leaf field = leaf_at field
value_at next T fs (one b) field = one_at next b.types fs field
value_at next T fs (many b) field = many_at next b.types fs field

-- a connection is read under its handle key, any other field under its own
abbrev pub read_key : Ask → Text
read_key a = unwrap_or (handle_of a) (key_of a)

-- the field that a form looks at; a type name looks at none
abbrev pub looks_at : Form → Text → Text → Trace
looks_at typename id key = still
looks_at leaf id key = looked_at id key
looks_at (one b) id key = looked_at id key
looks_at (many b) id key = looked_at id key

-- a group: the first field decides the key and the form, the parts of all are joined
abbrev pub group_at : {F : Type 0} → Next F → Text → Fields → Group F → Found
group_at next T fields g = value_at next T (parts g) g.first.ask.form (fields (read_key g.first.ask))

abbrev pub fields_at : {F : Type 0} → Next F → Text → Text → Fields → Shown × Trace → List (Group F) → Shown × Trace
fields_at next T id fields end [] = end
fields_at next T id fields end (g ∷ groups) = (
  with_found g.first.ask.response (group_at next T fields g).0 (fields_at next T id fields end groups).0,
  join_traces (join_traces (looks_at g.first.ask.form id (read_key g.first.ask)) (group_at next T fields g).1) (fields_at next T id fields end groups).1,
)

-- ---- pointers

-- a pointer shows the values of the local variables; an inline one the data of its body, whose walk joins
abbrev pub pointer_at : {F : Type 0} → Next F → Text → Text → Pointer F → Bool → Tree × Trace
pointer_at next T id p false = (shown_object p.scope, issue id p)
pointer_at next T id p true = (or_null (next (T ∷ []) (p.body ∷ []) id).0, join_traces (issue id p) (next (T ∷ []) (p.body ∷ []) id).1)

abbrev pub pointers_at : {F : Type 0} → Next F → Text → Text → List (Pointer F) → Shown × Trace
pointers_at next T id [] = ([], still)
pointers_at next T id (p ∷ rest) = (
  with_value p.fragment (pointer_at next T id p p.inline).0 (pointers_at next T id rest).0,
  join_traces (pointer_at next T id p p.inline).1 (pointers_at next T id rest).1,
)

-- an object with a pointer tells its id, the name of its owner, and the pointers under the names of their fragments
abbrev pub mark_pointers : Text → Text → Shown → Shown
mark_pointers owner id [] = []
mark_pointers owner id (m ∷ ms) =
    with_value (codes "__fragments") (shown_object (m ∷ ms)) (with_value (codes "__id") (text id) (with_value (codes "__owner") (text owner) []))

-- the same, one after another
abbrev pub mark_members : Text → Text → Shown → List (Text × Tree)
mark_members owner id [] = []
mark_members owner id (m ∷ ms) = (codes "__fragments", shown_object (m ∷ ms)) ∷ (codes "__id", text id) ∷ (codes "__owner", text owner) ∷ []

abbrev pub marks : Text → Text → Shown × Trace → Shown × Trace
marks owner id r = (mark_pointers owner id r.0, r.1)

-- ---- records

-- the members of a live record of an object type
abbrev pub object_at : {F : Type 0} → Collect F → Text → Next F → Text → List F → Text → Fields → Shown × Trace
object_at collect owner next T fs id fields =
    fields_at next T id fields (marks owner id (pointers_at next T id (pointers_on collect T fs))) (groups_at collect T fs)

-- a live record is missing where its type is not possible
abbrev pub where_possible : Bool → Text → Shown × Trace → Found
where_possible true id r = (Some (shown_object r.0), join_traces (trace_at id) r.1)
where_possible false id r = (None, stood_lost id)

-- an absent record is missing, a deleted one null; typed gives a record's type from its type name
abbrev pub stand_at : {F : Type 0} → Collect F → (Text → Text) → Text → Next F → List Text → List F → Text → Standing → Fields → Found
stand_at collect typed owner next types fs id absent fields = (None, stood_lost id)
stand_at collect typed owner next types fs id gone fields = (Some null, trace_at id)
stand_at collect typed owner next types fs id (lives name) fields =
    where_possible (has_text types (typed name)) id (object_at collect owner next (typed name) fs id fields)

-- the read at an id, at most n records one below another
abbrev pub read_at : {F : Type 0} → Collect F → (Text → Text) → Text → Slots → ℕ → Next F
read_at collect typed owner m zero types fs id = (None, stood_lost id)
read_at collect typed owner m (suc n) types fs id =
    stand_at collect typed owner (read_at collect typed owner m n) types fs id (standing_of (m id)) (field_of (m id))

-- ---- pointers that are given, and in turn those of their reads

-- the pointers that the reads of pointers give
abbrev pub pointers_of_reads : (Issued → Found) → List Issued → List Issued
pointers_of_reads read [] = []
pointers_of_reads read (i ∷ is) = (read i).1.issued ++ pointers_of_reads read is

-- pointers, those of their reads, and so on, n turns
abbrev pub pointers_in_turn : (Issued → Found) → ℕ → List Issued → List Issued
pointers_in_turn read zero is = is
pointers_in_turn read (suc n) is = is ++ pointers_in_turn read n (pointers_of_reads read is)
