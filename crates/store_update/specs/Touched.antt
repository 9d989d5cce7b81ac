-- The ids whose slot an entry changes.
use Rattle.std.specs.Prelude.{◌≡◌, ◌↔◌, ◌+◌, ◌*◌, ◌≤◌, ℕ, Bool, false, not, List, [], ◌∷◌, ◌++◌, Option, Some, None}
use Rattle.std.specs.List.{sum_by}
use Rattle.store_conn.specs.gql_plain.Order.{has_text}
use Rattle.store_conn.specs.store_record.Keys.{Text}
use Rattle.store_conn.specs.store_record.declared.record.Slot.{Slot}
use Rattle.store_conn.specs.store_model.Entries.{Looks, number_asked}
use Rattle.store_conn.specs.store_model.Records.{Records, slot_at}
use Rattle.store_conn.specs.declared.changes.Change.{Change}
use Rattle.store_update.specs.Slots.{slot_eq, slot_after}
use Rattle.store_update.specs.Turns.{times}

-- the ids whose slot differs: an id is not among them exactly if it has the same slot in both maps
abbrev pub AreTouched : Records → Records → List Text → Type 0
AreTouched before after ids = (id : Text) → (has_text ids id ≡ false) ↔ (slot_at id after ≡ slot_at id before)

-- whether the slot of an id differs
abbrev pub is_changed : Records → Records → Text → Bool
is_changed before after id = not (slot_eq (slot_at id before) (slot_at id after))

-- ---- what is noted, while an entry is applied

-- a new slot is another one than the one before
abbrev pub IsNew : Option Slot → Option Slot → Type 0
IsNew before change = slot_after change before ≡ before → change ≡ None

-- the ids, and one more where its slot is a new one
abbrev pub noted : Text → Option Slot → List Text → List Text
noted id None ids = ids
noted id (Some s) ids = ids ++ id ∷ []

-- the ids of records that are put, each twice
abbrev pub ids_put : List Change → List Text
ids_put [] = []
ids_put (c ∷ cs) = c.id ∷ c.id ∷ ids_put cs

-- ids are noted behind others: one that is noted no more has kept its slot, and one that is noted just once more
-- has another
pub record AreNoted (before after : Records) (old new : List Text) : Type 0 where
  pub more : (id : Text) → times old id ≤ times new id
  pub kept : (id : Text) → times new id ≡ times old id → slot_at id after ≡ slot_at id before
  pub differs : (id : Text) → times new id ≡ times old id + 1 → slot_at id after ≡ slot_at id before → ⊥

-- what is noted behind others is among these ids, each as often at most: no sum over it is greater
abbrev pub ArePicked : List Text → List Text → List Text → Type 0
ArePicked ids old new = (number : Text → ℕ) → sum_by number new ≤ sum_by number old + sum_by number ids

-- how many ids are noted, and how many looks are taken at most, for what a page or a command asks for
abbrev pub most : Looks → ℕ
most asked = 4 * (1 + number_asked asked)
