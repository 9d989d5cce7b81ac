-- Equality of slots decides whether they are the same.
use Rattle.std.proofs.Common.{◌≡◌, true, true≢false, Option, Some, None, refl, sym, ap, subst}
use Rattle.std.specs.Bool.{Decides}
use Rattle.store_conn.specs.store_record.Equal.{record_eq-Decides}
use Rattle.store_conn.specs.store_record.declared.record.Slot.{Slot}
use Rattle.store_conn.specs.store_record.declared.record.Slot.TheVariants.{Deleted, Alive}
use Rattle.store_update.specs.Slots.{slot_eq}

sound : (a b : Option Slot) → slot_eq a b ≡ true → a ≡ b
sound None None h = refl
sound None (Some s) h = absurd (true≢false (sym h))
sound (Some s) None h = absurd (true≢false (sym h))
sound (Some Deleted) (Some Deleted) h = refl
sound (Some Deleted) (Some (Alive s)) h = absurd (true≢false (sym h))
sound (Some (Alive r)) (Some Deleted) h = absurd (true≢false (sym h))
sound (Some (Alive r)) (Some (Alive s)) h = ap (λ x. Some (Alive x)) ((record_eq-Decides r s).0 h)

itself : (a : Option Slot) → slot_eq a a ≡ true
itself None = refl
itself (Some Deleted) = refl
itself (Some (Alive r)) = (record_eq-Decides r r).1 refl

pub slot_eq-Decides : (a b : Option Slot) → Decides (slot_eq a b) (a ≡ b)
slot_eq-Decides a b = (sound a b, λ p. subst (λ z. slot_eq a z ≡ true) p (itself a))
