use Rattle.std.proofs.Common.{[], ◌∷◌, refl, ◌∙◌, arith}
use Rattle.plan_ir.specs.store_model.Leads.{with_infos}
use Rattle.plan_ir.specs.store_model.Merge.{info_id}
use Rattle.plan_ir.specs.store_record.Keys.{Text}
use Rattle.store_retain.proofs.LeadingSteps.{both_noted}
use Rattle.store_retain.proofs.leading.see_all.Goals as goal
use Rattle.store_sweeps.proofs.Written.{noted_next, noted_end}

pub ids-preserved : goal.ids-preserved
ids-preserved g c = record {
  noted = λ j. noted_next (λ (id : Text). id ∷ info_id id ∷ []) with_infos (λ id ids. refl) c.args.ids.now c.ids.id-index c.id-item.result c.ids.leading.noted.keys c.see_with_info.new.leading.noted.keys _ j
      (omega arith) c.id-item.is (c.in_ok-see_with_info.ensures.noted j ∙ both_noted c.ids.leading.noted.keys c.id-item.result j) (c.ids.invariant.noted j);
  opened = λ except before. c.in_ok-see_with_info.ensures.opened except (c.ids.invariant.opened except before);
  less = omega (arith, c.in_ok-see_with_info.ensures.less, c.ids.invariant.less);
  applies = c.see_with_info.ensures.applies ∙ c.ids.invariant.applies;
}

pub returns-in_err-see_with_info-clause-applies : goal.returns-in_err-see_with_info-clause-applies
returns-in_err-see_with_info-clause-applies g c = c.see_with_info.ensures.applies ∙ c.ids.invariant.applies

pub returns-clause-noted : goal.returns-clause-noted
returns-clause-noted g c = λ j. noted_end (λ (id : Text). id ∷ info_id id ∷ []) with_infos (λ id ids. refl) refl c.args.ids.now c.ids.id-index c.ids.leading.noted.keys _ j (omega arith) (c.ids.invariant.noted j)
