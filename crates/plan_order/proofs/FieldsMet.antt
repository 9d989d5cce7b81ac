-- What is met at the fields of items: one after another, or those before the pointers and those behind them.
use Rattle.std.proofs.Common.{◌≡◌, Bool, true, false, not, List, [], ◌∷◌, map, refl, sym}
use Rattle.plan_ir.specs.ReaderMeaning.{ReaderPart}
use Rattle.plan_order.proofs.AlikeTraces.{AreMet, met-after, met-assoc, met-first, met-join, met-refl, met-second, met-trans}
use Rattle.plan_order.proofs.AlikeValues.{IsAlikePart, value_alike}
use Rattle.plan_order.proofs.FieldsInOrder.{put_all}
use Rattle.plan_order.proofs.Grouping.{alone_in}
use Rattle.plan_order.specs.Walk.{whole, before, behind, alone, field_met, fields_met, is_below}
use Rattle.plan_ir.specs.store_model.Items.{Asked, Form, typename, leaf, one, many, Item, asked, pointed, asked_of}
use Rattle.plan_ir.specs.store_model.Walks.{Fields, Next, Shown, Trace, fields_at, group_at, join_traces, looks_at, read_key, still, with_found}
use Rattle.plan_ir.specs.store_record.Keys.{Text}

-- a look at a field is nothing missing, and no id stood at
pub looks_no_loss : (f : Form) (id key : Text) → (looks_at f id key).missing ≡ false
looks_no_loss typename id key = refl
looks_no_loss leaf id key = refl
looks_no_loss (one b) id key = refl
looks_no_loss (many b) id key = refl

pub looks_nowhere : (f : Form) (id key : Text) → (looks_at f id key).seen ≡ []
looks_nowhere typename id key = refl
looks_nowhere leaf id key = refl
looks_nowhere (one b) id key = refl
looks_nowhere (many b) id key = refl

-- what is met at all fields is what is met at those on either side
module _ (next : Next ReaderPart) (T : Text) (fields : Fields) where
  side : (a : Asked ReaderPart) (s t : Trace) (b : Bool)
      → AreMet (join_traces (group_at next T fields (alone a)).1 (join_traces s t)) (join_traces (join_traces (field_met b next T fields a) s) (join_traces (field_met (not b) next T fields a) t))
  side a s t true = met-first (group_at next T fields (alone a)).1 s t
  side a s t false = met-second (group_at next T fields (alone a)).1 s t

  pub sides_met : (items : List (Item ReaderPart)) → AreMet (fields_met whole next T fields items) (join_traces (fields_met before next T fields items) (fields_met behind next T fields items))
  sides_met [] = met-refl still
  sides_met (pointed p ∷ items) = sides_met items
  sides_met (asked a ∷ items) =
      let here = (group_at next T fields (alone a)).1 in
      let front = fields_met before next T fields items in
      let back = fields_met behind next T fields items in
      met-trans _ (join_traces here (join_traces front back)) _
      (met-join here here (fields_met whole next T fields items) (join_traces front back) (met-refl here) (sides_met items))
      (side a front back (is_below a.ask.response))

module _ (next other : Next ReaderPart) where
  -- what stands below each field and each pointer reads alike
  abbrev pub AreAlikeParts : List (Item ReaderPart) → Type 0
  AreAlikeParts [] = Unit {0}
  AreAlikeParts (asked a ∷ items) = IsAlikePart next other a.part × AreAlikeParts items
  AreAlikeParts (pointed p ∷ items) = IsAlikePart next other p.body × AreAlikeParts items

  module _ (T id : Text) (fields : Fields) where
    -- the fields put to their places, by either
    pub fields_data : (end : Shown × Trace) (items : List (Item ReaderPart)) → AreAlikeParts items
        → (fields_at other T id fields end (map alone_in (asked_of items))).0 ≡ put_all next T fields end.0 items
    fields_data end [] parts = refl
    fields_data end (pointed p ∷ items) parts = fields_data end items parts.1
    fields_data end (asked a ∷ items) parts =
        let here = value_alike next other a.part a.part parts.0 T a.ask.form (fields (read_key a.ask)) in
        λ i. with_found a.ask.response (sym here.shown i) (fields_data end items parts.1 i)

    -- and what is met there
    pub fields_trace : (end : Shown × Trace) (t : Trace) → AreMet t end.1 → (items : List (Item ReaderPart)) → AreAlikeParts items
        → AreMet (join_traces (fields_met whole next T fields items) t) (fields_at other T id fields end (map alone_in (asked_of items))).1
    fields_trace end t last [] parts = last
    fields_trace end t last (pointed p ∷ items) parts = fields_trace end t last items parts.1
    fields_trace end t last (asked a ∷ items) parts =
        let look = looks_at a.ask.form id (read_key a.ask) in
        let here = (group_at next T fields (alone a)).1 in
        let there = (group_at other T fields (alone a)).1 in
        let alike = value_alike next other a.part a.part parts.0 T a.ask.form (fields (read_key a.ask)) in
        let rest = fields_met whole next T fields items in
        met-trans _ (join_traces here (join_traces rest t)) _ (met-assoc here rest t)
        (met-join here (join_traces look there) (join_traces rest t) _
        (met-trans here there (join_traces look there) alike.met (met-after look there (looks_no_loss a.ask.form id (read_key a.ask)) (looks_nowhere a.ask.form id (read_key a.ask))))
        (fields_trace end t last items parts.1))
