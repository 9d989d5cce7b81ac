-- The id of an object whose type has one, and for which a value is given.
use Rattle.std.proofs.Common.{◌++◌, ◌∷◌, [], codes, option_map, subst, sym, ◌∙◌}
use Rattle.std.proofs.lemmas.Result.{IfOk-weaker, on_ok_weaker}
use Rattle.serde_json.specs.View.{view}
use Rattle.plan_ir.specs.store_model.Says.{Report, id_under}
use Rattle.plan_ir.specs.store_model.declared.payload_fault.PathStep.TheVariants.{Key}
use Rattle.store_norm.proofs.taking.take_id.Goals as goal
use Rattle.store_norm.specs.MadeView.{id_of}
use Rattle.store_report.specs.ObjectRows.{Adds}

pub returns-in-Some-clause-id : goal.returns-in-Some-clause-id
returns-in-Some-clause-id c =
    IfOk-weaker c.given_id.result _ _
    (λ id h. h ∙ sym (λ i. (id_under (c.if-not-has_id.false i) (id_of c.args.place.now) (c.args.trail.now ++ Key (codes "id") ∷ []) (option_map (λ v. view v.now) (c.in-Some.is i))).0))
    c.given_id.ensures.id

pub returns-in-Some-clause-said : goal.returns-in-Some-clause-said
returns-in-Some-clause-said c =
    on_ok_weaker c.given_id.result
    (subst (λ (r : Report). Adds c.args.rows.now c.given_id.new.rows r)
    (sym (λ i. (id_under (c.if-not-has_id.false i) (id_of c.args.place.now) (c.args.trail.now ++ Key (codes "id") ∷ []) (option_map (λ v. view v.now) (c.in-Some.is i))).1)))
    c.given_id.ensures.said
