-- The walk along records by groups and pointers as they are read.
use Rattle.std.specs.Prelude.{ℕ, Bool, true, false, ◌-◌, List, [], ◌∷◌, ◌++◌, Some, None}
use Rattle.plan_ir.specs.gql_plain.Order.{has_text}
use Rattle.plan_ir.specs.gql_plain.Tree.{Tree}
use Rattle.plan_ir.specs.ReaderMeaning.{ReaderPart, collect_reader}
use Rattle.plan_ir.specs.store_model.Walks.{Fields, Found, Next, Shown, Trace, field_of, join_traces, mark_members, missing_trace, object_at, or_null, read_at, shown_object, still, type_of_record, value_at}
use Rattle.store_read.specs.Caching.{Caching, ReadGroup, ReadPointer}
use Rattle.store_read.specs.Members.{found_before, put_all}
use Rattle.store_read.specs.Reading.{slots}
use Rattle.plan_ir.specs.store_record.Keys.{Text, Arguments}
use Rattle.plan_ir.specs.store_record.declared.record.Record.{Record}
use Rattle.plan_ir.specs.store_record.declared.record.Slot.TheVariants.{Alive}
use Rattle.store_source.specs.Records.{Records}

-- how parts are read, at most n records one below another
abbrev pub reads : Records → (root owner : Text) → ℕ → Next ReaderPart
reads m root owner n = read_at collect_reader (type_of_record root) owner (slots m) n

-- ---- groups

-- a group on a record of a type
abbrev pub group_read : (ℕ → Next ReaderPart) → Text → Fields → ReadGroup → Found
group_read next T fields g = value_at (next g.below.levels) T g.below.parts g.form (fields g.key)

abbrev pub group_shown : (ℕ → Next ReaderPart) → Text → Fields → ReadGroup → List (Text × Tree)
group_shown next T fields g = found_before g.response (group_read next T fields g).0 []

abbrev pub groups_shown : (ℕ → Next ReaderPart) → Text → Fields → List ReadGroup → List (Text × Tree)
groups_shown next T fields [] = []
groups_shown next T fields (g ∷ gs) = group_shown next T fields g ++ groups_shown next T fields gs

abbrev pub groups_met : (ℕ → Next ReaderPart) → Text → Fields → List ReadGroup → Trace
groups_met next T fields [] = still
groups_met next T fields (g ∷ gs) = join_traces (group_read next T fields g).1 (groups_met next T fields gs)

-- ---- pointers

abbrev pub body_or_scope : Arguments → Found → Bool → Tree × Trace
body_or_scope scope body false = (shown_object scope, still)
body_or_scope scope body true = (or_null body.0, body.1)

-- a pointer on a record whose type stands alone in a list
abbrev pub pointer_read : (ℕ → Next ReaderPart) → List Text → (id : Text) → ReadPointer → Tree × Trace
pointer_read next types id p = body_or_scope p.scope (next p.below.levels types p.below.parts id) p.inline

abbrev pub pointer_shown : (ℕ → Next ReaderPart) → List Text → (id : Text) → ReadPointer → List (Text × Tree)
pointer_shown next types id p = (p.fragment, (pointer_read next types id p).0) ∷ []

abbrev pub pointers_listed : (ℕ → Next ReaderPart) → List Text → (id : Text) → List ReadPointer → List (Text × Tree)
pointers_listed next types id [] = []
pointers_listed next types id (p ∷ ps) = pointer_shown next types id p ++ pointers_listed next types id ps

abbrev pub pointers_shown : (ℕ → Next ReaderPart) → List Text → (id : Text) → List ReadPointer → Shown
pointers_shown next types id ps = put_all (pointers_listed next types id ps) []

abbrev pub pointers_met : (ℕ → Next ReaderPart) → List Text → (id : Text) → List ReadPointer → Trace
pointers_met next types id [] = still
pointers_met next types id (p ∷ ps) = join_traces (pointer_read next types id p).1 (pointers_met next types id ps)

-- ---- records

-- the members of a record of a type
abbrev pub object_read : (ℕ → Next ReaderPart) → (owner T : Text) → List Text → (id : Text) → Fields → List ReadGroup → List ReadPointer → Shown × Trace
object_read next owner T types id fields gs ps = (
  put_all (groups_shown next T fields gs ++ mark_members owner id (pointers_shown next types id ps)) [],
  join_traces (groups_met next T fields gs) (pointers_met next types id ps),
)

abbrev pub if_possible : Bool → Shown × Trace → Found
if_possible true r = (Some (shown_object r.0), r.1)
if_possible false r = (None, missing_trace)

-- a live record, by what a cache is for; that it is stood at is told elsewhere
abbrev pub live_read : Records → (root owner : Text) → Caching → List Text → (id : Text) → Record → Found
live_read m root owner c types id r =
    if_possible (has_text types (type_of_record root r.type_name))
    (object_at collect_reader owner (reads m root owner (c.levels - 1)) (type_of_record root r.type_name) c.parts id (field_of (Some (Alive r))))
