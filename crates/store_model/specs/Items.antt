-- What selections ask of a record (section 6.3.2), whatever they were collected from: F is what stands below a field.
use Rattle.std.specs.Prelude.{Bool, List, [], ◌∷◌, ◌++◌, map, cond, bytes_eq, Option, option_map}
use Rattle.store_record.specs.Keys.{Text, Arguments, field_key, handle_key}

-- what a field of objects leads to: the possible types, those of them that have an id, and whether the named type is abstract
pub record Below : Type 0 where
  pub types : List Text
  pub identified : List Text
  pub open_type : Bool

-- what stands under a field: the type name of its record, a leaf, an object or a list of objects
pub data Form : Type 0 where
  typename : Form
  leaf : Form
  one : Below → Form
  many : Below → Form

-- the connection that a field asks for a page of: its key, and the arguments that name it
pub record Connection : Type 0 where
  pub key : Text
  pub filters : Option (List Text)

-- what is asked of a record: a field under a response key, with the values of its arguments
pub record Ask : Type 0 where
  pub response : Text
  pub name : Text
  pub arguments : Arguments
  pub connection : Option Connection
  pub form : Form

-- a field, and what stands below
pub record Asked (F : Type 0) : Type 0 where
  pub ask : Ask
  pub part : F

-- the key that a field is stored under
abbrev pub key_of : Ask → Text
key_of a = field_key a.name a.arguments

-- the key of its connection
abbrev pub handle_of : Ask → Option Text
handle_of a = option_map (λ c. handle_key c.key c.filters a.arguments) a.connection

-- a spread that is not entered: its fragment, the values of the fragment's local variables, whether the fragment is read
-- where the spread stands, and the fragment's body
pub record Pointer (F : Type 0) : Type 0 where
  pub fragment : Text
  pub scope : Arguments
  pub inline : Bool
  pub body : F

-- what selections give: fields and pointers
pub data Item (F : Type 0) : Type 0 where
  asked : Asked F → Item F
  pointed : Pointer F → Item F

-- the fields of one response key
pub record Group (F : Type 0) : Type 0 where
  pub first : Asked F
  pub others : List (Asked F)

-- the fields of a group, the first one in front
abbrev pub members : {F : Type 0} → Group F → List (Asked F)
members g = g.first ∷ g.others

-- what stands below a group: what stands below each of its fields
abbrev pub parts : {F : Type 0} → Group F → List F
parts g = map (λ a. a.part) (members g)

-- what the fields of a group ask for
abbrev pub asks : {F : Type 0} → Group F → List Ask
asks g = map (λ a. a.ask) (members g)

-- ---- fields

-- the fields among items
abbrev pub asked_of : {F : Type 0} → List (Item F) → List (Asked F)
asked_of [] = []
asked_of (asked a ∷ items) = a ∷ asked_of items
asked_of (pointed p ∷ items) = asked_of items

-- the groups with a field at the end of its group
abbrev pub with_asked : {F : Type 0} → List (Group F) → Asked F → List (Group F)
with_asked [] a = record { first = a; others = [] } ∷ []
with_asked (g ∷ groups) a =
    cond (bytes_eq g.first.ask.response a.ask.response) (record { first = g.first; others = g.others ++ a ∷ [] } ∷ groups) (g ∷ with_asked groups a)

-- the groups with fields, one after another
abbrev pub grouped_onto : {F : Type 0} → List (Group F) → List (Asked F) → List (Group F)
grouped_onto groups [] = groups
grouped_onto groups (a ∷ fields) = grouped_onto (with_asked groups a) fields

-- the groups of the fields among items, in order of first response key
abbrev pub groups_of : {F : Type 0} → List (Item F) → List (Group F)
groups_of items = grouped_onto [] (asked_of items)

-- ---- pointers

-- the pointers without those to a fragment
abbrev pub without : {F : Type 0} → Text → List (Pointer F) → List (Pointer F)
without name [] = []
without name (p ∷ rest) = cond (bytes_eq p.fragment name) (without name rest) (p ∷ without name rest)

-- the pointers among items, the first to each fragment
abbrev pub pointers : {F : Type 0} → List (Item F) → List (Pointer F)
pointers [] = []
pointers (asked a ∷ items) = pointers items
pointers (pointed p ∷ items) = p ∷ without p.fragment (pointers items)

-- ---- collecting

-- how what stands below a field gives items on an object type
abbrev pub Collect : Type 0 → Type 0
Collect F = Text → F → List (Item F)

-- the items that parts give on an object type, one part after another
abbrev pub collect_all : {F : Type 0} → Collect F → Text → List F → List (Item F)
collect_all collect object_type [] = []
collect_all collect object_type (f ∷ fs) = collect object_type f ++ collect_all collect object_type fs

-- the groups that parts give on an object type
abbrev pub groups_at : {F : Type 0} → Collect F → Text → List F → List (Group F)
groups_at collect T fs = groups_of (collect_all collect T fs)

-- the pointers that parts give on an object type
abbrev pub pointers_on : {F : Type 0} → Collect F → Text → List F → List (Pointer F)
pointers_on collect T fs = pointers (collect_all collect T fs)
