-- What an entry asks for is all that it depends on.
use Rattle.std.specs.Prelude.{◌≡◌}
use Rattle.std.specs.List.{AllByRecursion}
use Rattle.store_record.specs.Keys.{Text}
use Rattle.store_model.specs.Entries.{looks, weight, apply}
use Rattle.store_model.specs.Records.{Records, slot_at}
use Rattle.store_model.specs.declared.entry.Entry.{Entry}

abbrev pub SameAt : Records → Records → Text → Type 0
SameAt m n id = slot_at id m ≡ slot_at id n

-- two maps with the same slots at the ids that an entry asks for: it asks for the same in both, weighs the same, and leaves
-- the same slot wherever they had the same before
abbrev pub LooksAreEnough : Type 0
LooksAreEnough = (e : Entry) (m n : Records) → AllByRecursion (SameAt m n) (looks e m)
    → (looks e m ≡ looks e n) × (weight e m ≡ weight e n) × ((id : Text) → SameAt m n id → SameAt (apply e m) (apply e n) id)
