use Rattle.std.proofs.Common.{◌∷◌, [], map, sym, ap, subst, ◌∙◌}
use Rattle.std.proofs.lemmas.List.{map-append}
use Rattle.store_conn.specs.store_model.FactRows.{with_row}
use Rattle.store_conn.specs.store_model.Updates.{act_all}
use Rattle.store_conn.specs.store_model.declared.facts.FactRow.{FactRow}
use Rattle.store_update.proofs.Noted.{noted_more, picked_more}
use Rattle.store_update.proofs.facts.put_both.Goals as goal
use Rattle.store_update.specs.Touched.{ArePicked}

pub returns-clause-records : goal.returns-clause-records
returns-clause-records g c = c.in_ok-after.ensures.records ∙ ap (λ m. act_all c.args.commands.now (with_row c.args.last.now m)) c.in_ok-put.ensures.records

pub returns-clause-noted : goal.returns-clause-noted
returns-clause-noted g c = noted_more _ _ _ _ _ _ c.in_ok-put.ensures.noted c.in_ok-after.ensures.noted

pub returns-clause-picked : goal.returns-clause-picked
returns-clause-picked g c =
    subst (λ ids. ArePicked ids c.args.draft.noted.items c.in_ok-after.after.noted.items) (sym (map-append (λ (r : FactRow). r.id) c.args.before.now (c.args.last.now ∷ [])))
    (picked_more (map (λ (r : FactRow). r.id) c.args.before.now) (c.args.last.now.id ∷ []) c.args.draft.noted.items c.in_ok-put.put.noted.items c.in_ok-after.after.noted.items c.in_ok-put.ensures.picked c.in_ok-after.ensures.picked)
