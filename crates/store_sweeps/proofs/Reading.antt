-- Reads of retained operations, in folds over the base and over the swept base.
use Rattle.std.proofs.Common.{◌≡◌, Bool, true, ◌⊎◌, inl, inr, cond, None, sym, ap, ◌∙◌}
use Rattle.store_model.specs.gql_plain.Order.{has_text}
use Rattle.store_model.specs.store_record.Keys.{Text}
use Rattle.store_model.proofs.Least.{each_so}
use Rattle.store_model.proofs.Retained.{reads_retained}
use Rattle.store_model.specs.Enough.{SameAt}
use Rattle.store_model.specs.Entries.{all_named, fold_entries}
use Rattle.store_model.specs.Leads.{leads}
use Rattle.store_model.specs.Reaches.{reach_at}
use Rattle.store_model.specs.Records.{Records, slot_at}
use Rattle.store_model.specs.Sweeps.{sweep}
use Rattle.store_sweeps.specs.Swept.{Goes, chosen, slots_in, ReachesStayUnderLayers, ReadsStayUnderLayers}
use Rattle.store_sweeps.proofs.Folds.{layers_go}
use Rattle.store_sweeps.proofs.Reaching.{reach_either}
use Rattle.store_model.proofs.SweptSlots.{slot_at-sweep}

kept_same : (keep : Text → Bool) (m : Records) (id : Text) → keep id ≡ true → SameAt m (sweep keep m) id
kept_same keep m id h = sym (slot_at-sweep keep m id ∙ ap (λ b. cond b (slot_at id m) None) h)

pub reaches_stay : {F : Type 0} → ReachesStayUnderLayers F
reaches_stay collect typed base entries keep choice kept depth types fs id reach =
    each_so _ _ (reach_at collect typed (slots_in over) depth types fs id) by
    (reach_either collect typed goes.larger (slots_in base) (slots_in over) (λ j. keep j ≡ true) goes.within.stays (λ j out. (goes.outside j out).0) depth types fs id reach)
  where
    over : Records
    over = fold_entries (chosen choice entries) base

    under : Records
    under = fold_entries (chosen choice entries) (sweep keep base)

    goes : Goes (has_text (leads base (all_named entries))) base (sweep keep base) (fold_entries (chosen choice entries) base) (fold_entries (chosen choice entries) (sweep keep base))
    goes = layers_go base entries keep choice kept.keys kept.led

    by : (j : Text) → (goes.larger j ≡ true) ⊎ (keep j ≡ true) → SameAt (fold_entries (chosen choice entries) base) (fold_entries (chosen choice entries) (sweep keep base)) j
    by j (inl held) = goes.within.same j held
    by j (inr k) = goes.same j (kept_same keep base j k)

pub reads_stay : {F : Type 0} → ReadsStayUnderLayers F
reads_stay masked whole deep tied typed owner types_for body_of covers none bodies base entries keep choice kept most depth deeper turns le short types fs id depths reach =
    reads_retained masked whole deep tied typed owner types_for body_of covers none bodies (slots_in (fold_entries (chosen choice entries) base)) (slots_in (fold_entries (chosen choice entries) (sweep keep base)))
    most depth deeper turns le short types fs id depths (reaches_stay whole typed base entries keep choice kept deeper types fs id reach)
