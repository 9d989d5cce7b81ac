-- Sweeps of bases that differ at some ids.
use Rattle.std.proofs.Common.{◌≡◌, Bool, true, false, true≢false, cond, ◌||◌, [], None, refl, sym, ap, ◌∙◌}
use Rattle.std.specs.Cmp.Lexicographic.{nat_list_cmp_total}
use Rattle.std.specs.FinMap.{same_map}
use Rattle.store_model.specs.gql_plain.Order.{has_text}
use Rattle.store_model.specs.store_record.Keys.{Text}
use Rattle.store_model.specs.Enough.{SameAt}
use Rattle.store_model.proofs.Led.{leads-least}
use Rattle.store_model.specs.Leads.{leads}
use Rattle.store_model.specs.Records.{Records, slot_at}
use Rattle.store_model.specs.Sweeps.{sweep}
use Rattle.store_sweeps.proofs.Folds.{leads_enough}
use Rattle.store_model.proofs.SweptSlots.{slot_at-sweep, ties_alone}
use Rattle.store_sweeps.specs.Meets.{SweepsMeetUnderLayers}

neither : (a b : Bool) → a ≡ false → b ≡ false → (a || b) ≡ false
neither true b h k = h
neither false b h k = k

pub sweeps_meet : SweepsMeetUnderLayers
sweeps_meet m n D ids reached also alike same_reach unreached unled = same_map nat_list_cmp_total ties_alone (sweep kept_m m) (sweep kept_n n) slots
  where
    kept_m : Text → Bool
    kept_m id = reached id || has_text (leads m ids) id

    kept_n : Text → Bool
    kept_n id = also id || has_text (leads n ids) id

    led_same : (id : Text) → has_text (leads m ids) id ≡ true → SameAt m n id
    led_same id h = at (D id) refl
      where
        at : (b : Bool) → D id ≡ b → SameAt m n id
        at true e = absurd (true≢false (sym h ∙ unled id e))
        at false e = alike id e

    kept_same : (id : Text) → kept_m id ≡ kept_n id
    kept_same id = λ i. same_reach id i || leads_enough m n ids led_same id i

    slot_same : (id : Text) → cond (kept_m id) (slot_at id m) None ≡ cond (kept_m id) (slot_at id n) None
    slot_same id = at (D id) refl
      where
        at : (b : Bool) → D id ≡ b → cond (kept_m id) (slot_at id m) None ≡ cond (kept_m id) (slot_at id n) None
        at true e =
            let off : kept_m id ≡ false = neither (reached id) (has_text (leads m ids) id) (unreached id e) (unled id e) in
            ap (λ b. cond b (slot_at id m) None) off ∙ sym (ap (λ b. cond b (slot_at id n) None) off)
        at false e = ap (λ s. cond (kept_m id) s None) (alike id e)

    slots : (id : Text) → slot_at id (sweep kept_m m) ≡ slot_at id (sweep kept_n n)
    slots id = slot_at-sweep kept_m m id ∙ slot_same id ∙ ap (λ b. cond b (slot_at id n) None) (kept_same id) ∙ sym (slot_at-sweep kept_n n id)

-- no ids lead to nothing, so that where no layer is live every set of kept ids will do
pub leads_of_none : (m : Records) (id : Text) → has_text (leads m []) id ≡ true → ⊥
leads_of_none m id h =
    true≢false (sym ((leads-least m []).1 (λ _. false)
    (record {
      given = λ id h. h;
      info_of_given = λ id h. h;
      info_of_live = λ id row e h. h;
      linked = λ id row e h j k. h;
      info_of_linked = λ id row e h j k. h;
    })
    id h))
