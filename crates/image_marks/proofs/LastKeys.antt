-- A key after the last one stands after each.
use Rattle.std.proofs.Common.{◌≡◌, ℕ, ◌-◌, ◌+◌, suc, true, List, [], ◌∷◌, length, Some, unwrap_or, refl, sym, ap, ◌∙◌, arith, subst}
use Rattle.std.specs.Cmp.Lexicographic.{slice_cmp}
use Rattle.std.specs.List.{slice_get}
use Rattle.std.specs.Map as pairs
use Rattle.std.specs.Ordering.{nat_cmp, is_lt}
use Rattle.store_record.specs.gql_plain.Order.{AreInOrder, IsAfter}
use Rattle.store_record.specs.gql_plain.Shown.{shown_members}
use Rattle.store_record.specs.gql_plain.declared.plain.Plain.{Plain}
use Rattle.store_record.specs.Keys.{Text, Arguments}
use Rattle.image_marks.proofs.FlatExact.{after_keys}
use Rattle.image_marks.specs.Flat.{is_next}

last_place : (n : ℕ) → (n + 2) - 1 ≡ suc ((n + 1) - 1)
last_place n = omega arith

pub next_by_last : (es : List (Text × Plain)) (m : Text × Plain) (key : Text) → slice_get es (length es - 1) ≡ Some m → is_next (shown_members es) key ≡ is_lt (slice_cmp nat_cmp m.0 key)
next_by_last [] m key e = absurd (cc)
next_by_last (x ∷ []) m key e = ap (λ o. is_lt (slice_cmp nat_cmp (unwrap_or o m).0 key)) e
next_by_last (x ∷ y ∷ es) m key e =
    let place : length (x ∷ y ∷ es) - 1 ≡ suc (length (y ∷ es) - 1) = omega arith in
    next_by_last (y ∷ es) m key (sym (ap (slice_get (x ∷ y ∷ es)) place) ∙ e)

keys_shown : (es : List (Text × Plain)) → pairs.keys_of (shown_members es) ≡ pairs.keys_of es
keys_shown [] = refl
keys_shown (e ∷ es) = ap (λ ks. e.0 ∷ ks) (keys_shown es)

pub after_shown : (es : List (Text × Plain)) (ms : Arguments) (key : Text) → shown_members es ≡ ms → AreInOrder (pairs.keys_of es) → is_next ms key ≡ true → IsAfter key (pairs.keys_of ms)
after_shown es ms key same order next = after_keys ms key (subst AreInOrder (sym (keys_shown es) ∙ ap pairs.keys_of same) order) next
