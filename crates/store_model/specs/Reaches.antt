-- Reach: the ids that a walk along all fields stands at.
use Rattle.std.specs.Prelude.{ℕ, zero, suc, List, [], ◌∷◌, ◌++◌, cond, Option, Some, None}
use Rattle.store_record.specs.gql_plain.Order.{has_text}
use Rattle.store_record.specs.Keys.{Text}
use Rattle.store_record.specs.declared.field.Field.{Field}
use Rattle.store_model.specs.Entries.{ids_in}
use Rattle.store_model.specs.Items.{Form, typename, leaf, one, many, Ask, key_of, handle_of, Group, asks, parts, Collect, groups_at}
use Rattle.store_model.specs.Walks.{Slots, Fields, Standing, absent, gone, lives, standing_of, field_of}

-- how the walk of parts goes on from an id whose possible types are given
abbrev pub Onward : Type 0 → Type 0
Onward F = (types : List Text) → List F → (id : Text) → List Text

-- the possible types of a form; a leaf has none, so the walk ends at what it links to
abbrev pub types_of : Form → List Text
types_of typename = []
types_of leaf = []
types_of (one b) = b.types
types_of (many b) = b.types

-- the ids of a field's links
abbrev pub links_of : Option Field → List Text
links_of None = []
links_of (Some f) = ids_in f

-- the links under a key, where there is one
abbrev pub links_under : Fields → Option Text → List Text
links_under fields None = []
links_under fields (Some key) = links_of (fields key)

-- the links that a field follows: those under its own key, and those of its connection
abbrev pub links_followed : Fields → Ask → List Text
links_followed fields a = links_of (fields (key_of a)) ++ links_under fields (handle_of a)

-- the walks from ids, one after another
abbrev pub from_each : (Text → List Text) → List Text → List Text
from_each next [] = []
from_each next (id ∷ ids) = next id ++ from_each next ids

-- every field of a group is followed, and the joined parts of the group go on from each link
abbrev pub reach_asked : {F : Type 0} → Onward F → Fields → List F → List Ask → List Text
reach_asked next fields fs [] = []
reach_asked next fields fs (a ∷ rest) = from_each (next (types_of a.form) fs) (links_followed fields a) ++ reach_asked next fields fs rest

abbrev pub reach_groups : {F : Type 0} → Onward F → Fields → List (Group F) → List Text
reach_groups next fields [] = []
reach_groups next fields (g ∷ groups) = reach_asked next fields (parts g) (asks g) ++ reach_groups next fields groups

-- the walk ends where the record's type is not possible
abbrev pub reach_alive : {F : Type 0} → Collect F → Onward F → List Text → List F → Text → Fields → List Text
reach_alive collect next types fs T fields = cond (has_text types T) (reach_groups next fields (groups_at collect T fs)) []

-- the walk ends at an absent and at a deleted record; typed gives a record's type from its type name
abbrev pub reach_stand : {F : Type 0} → Collect F → (Text → Text) → Onward F → List Text → List F → Standing → Fields → List Text
reach_stand collect typed next types fs absent fields = []
reach_stand collect typed next types fs gone fields = []
reach_stand collect typed next types fs (lives name) fields = reach_alive collect next types fs (typed name) fields

-- the ids of the walk that begins at an id, at most n records one below another
abbrev pub reach_at : {F : Type 0} → Collect F → (Text → Text) → Slots → ℕ → Onward F
reach_at collect typed m zero types fs id = id ∷ []
reach_at collect typed m (suc n) types fs id =
    id ∷ reach_stand collect typed (reach_at collect typed m n) types fs (standing_of (m id)) (field_of (m id))
