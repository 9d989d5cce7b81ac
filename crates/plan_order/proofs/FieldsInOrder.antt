-- The fields of items whose response keys rise: put in their places, they stand one after another.
use Rattle.std.proofs.Common.{◌≡◌, inl, inr, Bool, true, false, not, codes, List, [], ◌∷◌, ◌++◌, append-nil, append_assoc, Option, refl, sym, ap, ◌∙◌}
use Rattle.std.specs.List.{AllByRecursion}
use Rattle.std.specs.Ordering.{is_lt}
use Rattle.plan_ir.specs.gql_plain.Order.{AreInOrder}
use Rattle.plan_ir.specs.gql_plain.Tree.{Tree}
use Rattle.plan_ir.specs.ReaderMeaning.{ReaderPart}
use Rattle.plan_order.proofs.Grouping.{keys_in}
use Rattle.plan_order.proofs.Putting.{IsAboveAll, IsBelowAll, found_front, found_past, found-all}
use Rattle.plan_order.proofs.Rising.{IsBelow, above, all-append, all-weaker, below-trans, rising-first, rising-rest}
use Rattle.plan_order.specs.Ordered.{IsApart}
use Rattle.plan_order.specs.Walk.{Span, whole, before, behind, alone, field_shown, fields_shown, found_member, is_taken}
use Rattle.plan_ir.specs.store_model.Items.{Asked, Item, asked, pointed}
use Rattle.plan_ir.specs.store_model.Walks.{Fields, Next, Shown, group_at, with_found}
use Rattle.plan_ir.specs.store_record.Keys.{Text}

module _ (next : Next ReaderPart) (T : Text) (fields : Fields) where
  abbrev pub value_of : Asked ReaderPart → Option Tree
  value_of a = (group_at next T fields (alone a)).0

  -- the fields put over other members, each to its place
  abbrev pub put_all : Shown → List (Item ReaderPart) → Shown
  put_all end [] = end
  put_all end (asked a ∷ items) = with_found a.ask.response (value_of a) (put_all end items)
  put_all end (pointed p ∷ items) = put_all end items

  shown_all : (P : Text → Type 0) (span : Span) (items : List (Item ReaderPart)) → AllByRecursion P (keys_in items)
      → AllByRecursion (λ (m : Text × Tree). P m.0) (fields_shown span next T fields items)
  shown_all P span [] all = tt
  shown_all P span (pointed p ∷ items) all = shown_all P span items all
  shown_all P span (asked a ∷ items) all = all-append _ (field_shown (is_taken span a.ask.response) next T fields a) _ (one (is_taken span a.ask.response)) (shown_all P span items all.1)
    where
      one : (b : Bool) → AllByRecursion (λ (m : Text × Tree). P m.0) (field_shown b next T fields a)
      one false = tt
      one true = found-all P a.ask.response (value_of a) all.0

  -- with nothing beside them
  pub alone_in_order : (items : List (Item ReaderPart)) → AreInOrder (keys_in items) → put_all [] items ≡ fields_shown whole next T fields items
  alone_in_order [] up = refl
  alone_in_order (pointed p ∷ items) up = alone_in_order items up
  alone_in_order (asked a ∷ items) up =
      ap (with_found a.ask.response (value_of a)) (alone_in_order items (rising-rest a.ask.response (keys_in items) up))
      ∙ found_front a.ask.response (value_of a) (fields_shown whole next T fields items) (shown_all (IsBelow a.ask.response) whole items (rising-first a.ask.response (keys_in items) up))

  none_before : (items : List (Item ReaderPart)) → AllByRecursion (IsBelow (codes "__fragments")) (keys_in items) → fields_shown before next T fields items ≡ []
  none_before [] all = refl
  none_before (pointed p ∷ items) all = none_before items all
  none_before (asked a ∷ items) all =
      (λ i. field_shown (is_lt (above (codes "__fragments") a.ask.response all.0 i)) next T fields a ++ fields_shown before next T fields items) ∙ none_before items all.1

  -- around members between those below `__fragments` and those above `__owner`
  module _ (end : Shown) (low : (key : Text) → IsBelow key (codes "__fragments") → IsBelowAll key end) (high : (key : Text) → IsBelow (codes "__owner") key → IsAboveAll key end) where
    -- one more field, which is below them or above them
    one_in_order : (a : Asked ReaderPart) (items : List (Item ReaderPart)) → AllByRecursion (IsBelow a.ask.response) (keys_in items)
        → put_all end items ≡ fields_shown before next T fields items ++ (end ++ fields_shown behind next T fields items) → IsApart a.ask.response
        → put_all end (asked a ∷ items) ≡ fields_shown before next T fields (asked a ∷ items) ++ (end ++ fields_shown behind next T fields (asked a ∷ items))
    one_in_order a items all rest (inl below) =
        let key = a.ask.response in
        let v = value_of a in
        let front = fields_shown before next T fields items in
        let back = fields_shown behind next T fields items in
        let fit : IsBelowAll key (front ++ (end ++ back)) =
        all-append (λ (m : Text × Tree). IsBelow key m.0) front (end ++ back) (shown_all (IsBelow key) before items all)
        (all-append (λ (m : Text × Tree). IsBelow key m.0) end back (low key below) (shown_all (IsBelow key) behind items all)) in
        ap (with_found key v) rest
        ∙ found_front key v (front ++ (end ++ back)) fit
        ∙ sym (append_assoc (found_member key v) front (end ++ back))
        ∙ (λ i. (field_shown (is_lt (sym below i)) next T fields a ++ front) ++ (end ++ (field_shown (not (is_lt (sym below i))) next T fields a ++ back)))
    one_in_order a items all rest (inr higher) =
        let key = a.ask.response in
        let v = value_of a in
        let front = fields_shown before next T fields items in
        let back = fields_shown behind next T fields items in
        let past : IsBelow (codes "__fragments") key = below-trans (codes "__fragments") (codes "__owner") key refl higher in
        let bare : front ≡ [] = none_before items (all-weaker (IsBelow key) (IsBelow (codes "__fragments")) (keys_in items) (λ k. below-trans (codes "__fragments") key k past) all) in
        let over = above (codes "__fragments") key past in
        ap (with_found key v) (rest ∙ ap (λ ms. ms ++ (end ++ back)) bare)
        ∙ found_past key v end back (high key higher)
        ∙ ap (λ ms. end ++ ms) (found_front key v back (shown_all (IsBelow key) behind items all))
        ∙ (λ i. sym bare i ++ (end ++ (found_member key v ++ back)))
        ∙ (λ i. (field_shown (is_lt (sym over i)) next T fields a ++ front) ++ (end ++ (field_shown (not (is_lt (sym over i))) next T fields a ++ back)))

    pub around_in_order : (items : List (Item ReaderPart)) → AreInOrder (keys_in items) → AllByRecursion IsApart (keys_in items)
        → put_all end items ≡ fields_shown before next T fields items ++ (end ++ fields_shown behind next T fields items)
    around_in_order [] up apart = sym (append-nil end)
    around_in_order (pointed p ∷ items) up apart = around_in_order items up apart
    around_in_order (asked a ∷ items) up apart =
        one_in_order a items (rising-first a.ask.response (keys_in items) up) (around_in_order items (rising-rest a.ask.response (keys_in items) up) apart.1) apart.0
