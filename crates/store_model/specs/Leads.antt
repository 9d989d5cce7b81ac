-- What ids lead to: the least set that holds them, the page information of each of its ids, and for each live
-- id in it every id that its record links to, with the page information of each.
use Rattle.std.specs.Prelude.{◌≡◌, ℕ, zero, suc, Bool, IsTrue, Some, List, [], ◌∷◌, ◌++◌, length, cond}
use Rattle.std.specs.FinMap as map
use Rattle.store_record.specs.gql_plain.Order.{has_text}
use Rattle.store_record.specs.Keys.{Text}
use Rattle.store_record.specs.declared.field.Field.{Field}
use Rattle.store_record.specs.declared.record.Record.{Record}
use Rattle.store_record.specs.declared.record.Slot.{Slot}
use Rattle.store_record.specs.declared.record.Slot.TheVariants.{Deleted, Alive}
use Rattle.store_model.specs.Entries.{ids_in}
use Rattle.store_model.specs.Merge.{info_id}
use Rattle.store_model.specs.Records.{Records, live}

-- each id, and its page information
abbrev pub with_infos : List Text → List Text
with_infos [] = []
with_infos (id ∷ ids) = id ∷ info_id id ∷ with_infos ids

abbrev pub ids_of_fields : List (Text × Field) → List Text
ids_of_fields [] = []
ids_of_fields (f ∷ fs) = ids_in f.1 ++ ids_of_fields fs

-- a live id, and what its record leads to
pub record Live : Type 0 where
  pub id : Text
  pub out : List Text

abbrev pub live_of : Text → Slot → List Live
live_of id Deleted = []
live_of id (Alive r) = record { id = id; out = info_id id ∷ with_infos (ids_of_fields r.fields) } ∷ []

abbrev pub lives_of : List (Text × Slot) → List Live
lives_of [] = []
lives_of (e ∷ es) = live_of e.0 e.1 ++ lives_of es

-- the first whose id is in the set, and the others
pub data Picked : Type 0 where
  none : Picked
  picked : Live → List Live → Picked

abbrev pub beside : Live → Picked → Picked
beside e none = none
beside e (picked f rest) = picked f (e ∷ rest)

abbrev pub pick : List Text → List Live → Picked
pick ids [] = none
pick ids (e ∷ es) = cond (has_text ids e.id) (picked e es) (beside e (pick ids es))

abbrev pub of_picked : {X : Type 0} → X → (Live → List Live → X) → Picked → X
of_picked x f none = x
of_picked x f (picked e rest) = f e rest

-- the set, with what the live ids in it lead to, n of them at most
abbrev pub grow : ℕ → List Live → List Text → List Text
grow zero lives ids = ids
grow (suc n) lives ids = of_picked ids (λ e rest. grow n rest (ids ++ e.out)) (pick ids lives)

abbrev pub leads_along : List Live → List Text → List Text
leads_along lives ids = grow (length lives) lives (with_infos ids)

abbrev pub leads : Records → List Text → List Text
leads m ids = leads_along (lives_of (map.entries m)) ids

-- ---- laws

-- a set of ids that holds the given ones and their page information, and is closed: with each live id it holds the
-- page information of that id, and each id that its record links to with the page information of that
pub record IsLedTo (m : Records) (ids : List Text) (holds : Text → Bool) : Type 0 where
  pub given : (id : Text) → IsTrue (has_text ids id) → IsTrue (holds id)
  pub info_of_given : (id : Text) → IsTrue (has_text ids id) → IsTrue (holds (info_id id))
  pub info_of_live : (id : Text) (row : Record) → live id m ≡ Some row → IsTrue (holds id) → IsTrue (holds (info_id id))
  pub linked : (id : Text) (row : Record) → live id m ≡ Some row → IsTrue (holds id) → (j : Text) → IsTrue (has_text (ids_of_fields row.fields) j) → IsTrue (holds j)
  pub info_of_linked : (id : Text) (row : Record) → live id m ≡ Some row → IsTrue (holds id) → (j : Text) → IsTrue (has_text (ids_of_fields row.fields) j) → IsTrue (holds (info_id j))

-- what ids lead to is such a set, and within each other such set
abbrev pub LeadsIsLeast : Type 0
LeadsIsLeast = (m : Records) (ids : List Text)
    → IsLedTo m ids (has_text (leads m ids)) × ((holds : Text → Bool) → IsLedTo m ids holds → (id : Text) → IsTrue (has_text (leads m ids) id) → IsTrue (holds id))
