-- An object that is told in order is the object whose fields and pointers are put to their places.
use Rattle.std.proofs.Common.{◌≡◌, ◌⊎◌, inl, inr, Bool, true, false, cond, List, [], ◌∷◌, map, refl, sym, ap, subst, ◌∙◌}
use Rattle.std.specs.List.{AllByRecursion}
use Rattle.plan_ir.specs.gql_plain.Order.{AreInOrder}
use Rattle.plan_ir.specs.Reader.{Reader}
use Rattle.plan_ir.specs.ReaderMeaning.{ReaderPart, collect_reader, collect_reading}
use Rattle.plan_order.proofs.AlikeTraces.{AreMet, met-around, met-join, met-refl, met-still, met-sym, met-trans}
use Rattle.plan_order.proofs.AlikeValues.{pointed_met, pointed_shown}
use Rattle.plan_order.proofs.FieldsInOrder.{alone_in_order, around_in_order, put_all}
use Rattle.plan_order.proofs.FieldsMet.{AreAlikeParts, fields_data, fields_trace, sides_met}
use Rattle.plan_order.proofs.Grouping.{alone_in, fragment_of, fragments_in, keys_in, pointed_of}
use Rattle.plan_order.proofs.ItemsOrdered.{fragments_within, keys_within}
use Rattle.plan_order.proofs.PointersInOrder.{marks_above, marks_below, marks_listed, pointers_each_met, pointers_listed}
use Rattle.plan_order.proofs.PlainObjects.{AreShown, object_each}
use Rattle.plan_order.proofs.Rising.{Within, all-within, rising-within, within-none}
use Rattle.plan_order.proofs.Shuffles.{differ-rising}
use Rattle.plan_order.specs.Alike.{part_of}
use Rattle.plan_order.specs.Ordered.{IsApart, IsInOrder}
use Rattle.plan_order.specs.Responses.{fragments, responses}
use Rattle.plan_order.specs.Walk.{whole, before, behind, fields_alone, fields_around, fields_met, is_none, object_in_order, pointers_met, pointers_shown}
use Rattle.plan_ir.specs.schema_types.Environments.{Values}
use Rattle.plan_ir.specs.store_model.Items.{Item, asked, pointed, Pointer, asked_of}
use Rattle.plan_ir.specs.store_model.Walks.{Fields, Next, Shown, Trace, fields_at, join_traces, mark_members, mark_pointers, marks, object_at, pointers_at, still}
use Rattle.plan_ir.specs.store_record.Keys.{Text}

none_pointed : (ps : List (Pointer ReaderPart)) → map fragment_of ps ≡ [] → ps ≡ []
none_pointed [] e = refl
none_pointed (p ∷ ps) e = cc

module _ (next other : Next ReaderPart) (T id : Text) where
  pointers_data : (items : List (Item ReaderPart)) → AreAlikeParts next other items → pointers_shown next T id items ≡ pointers_shown other T id items
  pointers_data [] parts = refl
  pointers_data (asked a ∷ items) parts = pointers_data items parts.1
  pointers_data (pointed p ∷ items) parts = λ i. (p.fragment, pointed_shown next other T id p p refl parts.0 p.inline i) ∷ pointers_data items parts.1 i

  pointers_trace : (items : List (Item ReaderPart)) → AreAlikeParts next other items → AreMet (pointers_met next T id items) (pointers_met other T id items)
  pointers_trace [] parts = met-refl still
  pointers_trace (asked a ∷ items) parts = pointers_trace items parts.1
  pointers_trace (pointed p ∷ items) parts = met-join _ _ _ _ (pointed_met next other T id p p parts.0 p.inline) (pointers_trace items parts.1)

  module _ (owner : Text) (fields : Fields) (items : List (Item ReaderPart)) (parts : AreAlikeParts next other items) where
    -- the pointers of the other walk, with what they mark
    abbrev end : Shown × Trace
    end = marks owner id (pointers_at other T id (pointed_of items))

    abbrev read : Shown × Trace
    read = fields_at other T id fields end (map alone_in (asked_of items))

    -- with no pointer
    lone_shown : pointed_of items ≡ [] → AreInOrder (keys_in items) → AreShown (fields_alone next T fields items) read
    lone_shown bare up = record {
      shown = sym (alone_in_order next T fields items up) ∙ ap (λ ps. put_all next T fields (mark_pointers owner id (pointers_at other T id ps).0) items) (sym bare) ∙ sym (fields_data next other T id fields end items parts);
      met = met-trans _ (join_traces (fields_met whole next T fields items) still) _ (met-sym _ _ (met-still (fields_met whole next T fields items)))
          (fields_trace next other T id fields end still (subst (λ ps. AreMet still (pointers_at other T id ps).1) (sym bare) (met-refl still)) items parts);
    }

    -- with the marks between them
    spread_shown : AreInOrder (keys_in items) → AreInOrder (fragments_in items) → AllByRecursion IsApart (keys_in items) → AreShown (fields_around owner next T id fields items) read
    spread_shown up rising apart =
        let ms = pointers_shown next T id items in
        let listed : end.0 ≡ mark_members owner id ms = ap (mark_pointers owner id) (pointers_listed other T id items rising ∙ sym (pointers_data items parts)) ∙ marks_listed owner id ms in
        let front = fields_met before next T fields items in
        let back = fields_met behind next T fields items in
        let between = pointers_met next T id items in
        let last : AreMet between end.1 = subst (AreMet between) (sym (pointers_each_met other T id items)) (pointers_trace items parts) in
        record {
          shown = sym (around_in_order next T fields (mark_members owner id ms) (marks_above owner id ms) (marks_below owner id ms) items up apart)
              ∙ ap (λ (e : Shown). put_all next T fields e items) (sym listed)
              ∙ sym (fields_data next other T id fields end items parts);
          met = met-trans _ (join_traces (join_traces front back) between) _ (met-around front between back)
              (met-trans _ (join_traces (fields_met whole next T fields items) between) _
              (met-join _ _ between between (met-sym _ _ (sides_met next T fields items)) (met-refl between))
              (fields_trace next other T id fields end between last items parts));
        }

-- ---- the object of a plan

module _ (next other : Next ReaderPart) (owner T : Text) (env : Values) (steps : Reader) (id : Text) (fields : Fields) where
  abbrev given : List (Item ReaderPart)
  given = collect_reading env T steps

  abbrev expected : Shown × Trace
  expected = fields_at other T id fields (marks owner id (pointers_at other T id (pointed_of given))) (map alone_in (asked_of given))

  nothing_there : (fs : List Text) → is_none fs ≡ true → fs ≡ []
  nothing_there [] e = refl
  nothing_there (f ∷ fs) e = cc

  something_there : (fs : List Text) → is_none fs ≡ false → fs ≡ [] → AllByRecursion IsApart (responses steps)
  something_there [] e none = cc
  something_there (f ∷ fs) e none = cc

  by_pointers : (b : Bool) → is_none (fragments steps) ≡ b → IsInOrder steps → AreAlikeParts next other given
      → AreShown (cond b (fields_alone next T fields given) (fields_around owner next T id fields given)) expected
  by_pointers true e order parts =
      let bare : fragments_in given ≡ [] = within-none (subst (Within (fragments_in given)) (nothing_there (fragments steps) e) (fragments_within env T steps)) in
      lone_shown next other T id owner fields given parts (none_pointed (pointed_of given) bare) (rising-within (keys_within env T steps) order.fields)
  by_pointers false e order parts =
      spread_shown next other T id owner fields given parts
      (rising-within (keys_within env T steps) order.fields)
      (rising-within (fragments_within env T steps) order.pointers)
      (all-within IsApart (keys_within env T steps) (apart order.apart))
    where
      apart : (fragments steps ≡ []) ⊎ AllByRecursion IsApart (responses steps) → AllByRecursion IsApart (responses steps)
      apart (inl none) = something_there (fragments steps) e none
      apart (inr all) = all

  pub object_shown : IsInOrder steps → AreAlikeParts next other given
      → AreShown (object_in_order owner next T env steps id fields) (object_at collect_reader owner other T (part_of env steps ∷ []) id fields)
  object_shown order parts =
      subst (AreShown (object_in_order owner next T env steps id fields))
      (sym (object_each other owner T env steps id fields
      (differ-rising (keys_in given) (rising-within (keys_within env T steps) order.fields))
      (differ-rising (fragments_in given) (rising-within (fragments_within env T steps) order.pointers))))
      (by_pointers (is_none (fragments steps)) refl order parts)
