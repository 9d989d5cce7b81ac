-- The pointers of items whose fragments rise, and what an object with pointers tells beside its fields.
use Rattle.std.proofs.Common.{◌≡◌, codes, List, [], ◌∷◌, refl, ap, ◌∙◌}
use Rattle.std.specs.List.{AllByRecursion}
use Rattle.plan_ir.specs.gql_plain.Order.{AreInOrder}
use Rattle.plan_ir.specs.gql_plain.Tree.{Tree}
use Rattle.plan_ir.specs.ReaderMeaning.{ReaderPart}
use Rattle.plan_order.proofs.Grouping.{fragments_in, pointed_of}
use Rattle.plan_order.proofs.Putting.{IsAboveAll, IsBelowAll, put_front}
use Rattle.plan_order.proofs.Rising.{IsBelow, below-trans, rising-first, rising-rest}
use Rattle.plan_order.specs.Walk.{pointers_met, pointers_shown}
use Rattle.plan_ir.specs.store_model.Items.{Item, asked, pointed}
use Rattle.plan_ir.specs.store_model.Walks.{Next, Shown, join_traces, mark_members, mark_pointers, pointer_at, pointers_at, with_value}
use Rattle.plan_ir.specs.store_record.Keys.{Text}

-- ---- marks

pub marks_listed : (owner id : Text) (ms : Shown) → mark_pointers owner id ms ≡ mark_members owner id ms
marks_listed owner id [] = refl
marks_listed owner id (m ∷ ms) = refl

pub marks_above : (owner id : Text) (ms : Shown) (key : Text) → IsBelow key (codes "__fragments") → IsBelowAll key (mark_members owner id ms)
marks_above owner id [] key low = tt
marks_above owner id (m ∷ ms) key low =
    (low, (below-trans key (codes "__fragments") (codes "__id") low refl, (below-trans key (codes "__fragments") (codes "__owner") low refl, tt)))

pub marks_below : (owner id : Text) (ms : Shown) (key : Text) → IsBelow (codes "__owner") key → IsAboveAll key (mark_members owner id ms)
marks_below owner id [] key high = tt
marks_below owner id (m ∷ ms) key high =
    (below-trans (codes "__fragments") (codes "__owner") key refl high, (below-trans (codes "__id") (codes "__owner") key refl high, (high, tt)))

-- ---- pointers

module _ (next : Next ReaderPart) (T id : Text) where
  listed_all : (P : Text → Type 0) (items : List (Item ReaderPart)) → AllByRecursion P (fragments_in items) → AllByRecursion (λ (m : Text × Tree). P m.0) (pointers_shown next T id items)
  listed_all P [] all = tt
  listed_all P (asked a ∷ items) all = listed_all P items all
  listed_all P (pointed p ∷ items) all = (all.0, listed_all P items all.1)

  pub pointers_listed : (items : List (Item ReaderPart)) → AreInOrder (fragments_in items) → (pointers_at next T id (pointed_of items)).0 ≡ pointers_shown next T id items
  pointers_listed [] up = refl
  pointers_listed (asked a ∷ items) up = pointers_listed items up
  pointers_listed (pointed p ∷ items) up =
      ap (with_value p.fragment (pointer_at next T id p p.inline).0) (pointers_listed items (rising-rest p.fragment (fragments_in items) up))
      ∙ put_front p.fragment (pointer_at next T id p p.inline).0 (pointers_shown next T id items) (listed_all (IsBelow p.fragment) items (rising-first p.fragment (fragments_in items) up))

  pub pointers_each_met : (items : List (Item ReaderPart)) → (pointers_at next T id (pointed_of items)).1 ≡ pointers_met next T id items
  pointers_each_met [] = refl
  pointers_each_met (asked a ∷ items) = pointers_each_met items
  pointers_each_met (pointed p ∷ items) = ap (join_traces (pointer_at next T id p p.inline).1) (pointers_each_met items)
