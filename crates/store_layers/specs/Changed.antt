-- The ids that a call of the layers gives.
use Rattle.std.specs.Prelude.{◌≡◌, List, [], ◌∷◌, Bool, true, false, ◌||◌}
use Rattle.store_update.specs.gql_plain.Order.{has_text}
use Rattle.store_update.specs.store_record.Keys.{Text}
use Rattle.store_update.specs.store_model.Entries.{apply, fold_entries}
use Rattle.store_update.specs.store_model.Records.{Records, slot_at}
use Rattle.store_update.specs.store_model.declared.entry.Entry.{Entry}
use Rattle.store_update.specs.Touched.{is_changed}

-- whether one of the entries changes the slot of an id, each on the records that those before it leave
abbrev pub is_changed_by : List Entry → Records → Text → Bool
is_changed_by [] m id = false
is_changed_by (e ∷ es) m id = is_changed m (apply e m) id || is_changed_by es (apply e m) id

-- entries over some records give way to others: the ids hold every id whose slot differs then, and only ids
-- that one of the entries changes, before or after
pub record AreChanged (m : Records) (before after : List Entry) (ids : List Text) : Type 0 where
  pub all : (id : Text) → has_text ids id ≡ false → slot_at id (fold_entries after m) ≡ slot_at id (fold_entries before m)
  pub only : (id : Text) → has_text ids id ≡ true → (is_changed_by before m id || is_changed_by after m id) ≡ true
