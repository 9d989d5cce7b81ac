-- Where two maps agree on what a read met.
use Rattle.std.specs.Prelude.{◌≡◌}
use Rattle.std.specs.List.{AllByRecursion}
use Rattle.store_record.specs.Keys.{Text}
use Rattle.store_model.specs.Walks.{Slots, Trace, standing_of, field_of}

-- both absent, both deleted, or both live with one type name
abbrev pub AgreeAt : Slots → Slots → Text → Type 0
AgreeAt m n id = standing_of (m id) ≡ standing_of (n id)

-- both lack the key, or have equal fields there
abbrev pub AgreeUnder : Slots → Slots → Text × Text → Type 0
AgreeUnder m n p = field_of (m p.0) p.1 ≡ field_of (n p.0) p.1

-- agreement at each id stood at, and at each field looked at
pub record Agrees (m n : Slots) (t : Trace) : Type 0 where
  pub ids : AllByRecursion (AgreeAt m n) t.seen
  pub fields : AllByRecursion (AgreeUnder m n) t.looked
