-- Sweeps of bases that differ at some ids.
use Rattle.std.specs.Prelude.{◌≡◌, Bool, true, false, ◌||◌, List}
use Rattle.store_model.specs.gql_plain.Order.{has_text}
use Rattle.store_model.specs.store_record.Keys.{Text}
use Rattle.store_model.specs.Enough.{SameAt}
use Rattle.store_model.specs.Leads.{leads}
use Rattle.store_model.specs.Records.{Records}
use Rattle.store_model.specs.Sweeps.{sweep}

-- bases that are alike but for some ids, where the same is reached in both: if none of these ids is reached in the one, nor led to from
-- the ids there, then their sweeps are equal
abbrev pub SweepsMeetUnderLayers : Type 0
SweepsMeetUnderLayers = (m n : Records) (D : Text → Bool) (ids : List Text) (reached also_reached : Text → Bool)
    → ((id : Text) → D id ≡ false → SameAt m n id)
    → ((id : Text) → reached id ≡ also_reached id)
    → ((id : Text) → D id ≡ true → reached id ≡ false)
    → ((id : Text) → D id ≡ true → has_text (leads m ids) id ≡ false)
    → sweep (λ id. reached id || has_text (leads m ids) id) m ≡ sweep (λ id. also_reached id || has_text (leads n ids) id) n
