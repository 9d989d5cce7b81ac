-- The plain value of the response.
use Rattle.std.proofs.Common.{ap, subst}
use Rattle.serde_json.specs.View.{view}
use Rattle.plan_ir.proofs.store_model_laws.Plains.{plain_known}
use Rattle.plan_ir.specs.store_model.Says.{Report, leaf_of}
use Rattle.store_norm.proofs.taking.leaf_of.Goals as goal
use Rattle.store_report.proofs.AddSteps.{adds_none}
use Rattle.store_report.specs.ObjectRows.{Adds}

pub returns-in-Ok-clause-field : goal.returns-in-Ok-clause-field
returns-in-Ok-clause-field c = ap (λ o. (leaf_of o c.args.trail.now).0) (plain_known c.in-Ok.plain (view c.args.value.now) c.in-Ok.ensures.same c.in-Ok.ensures.whole)

pub returns-in-Ok-clause-said : goal.returns-in-Ok-clause-said
returns-in-Ok-clause-said c =
    subst (λ (r : Report). Adds c.args.rows.now c.args.rows.now r)
    (ap (λ o. (leaf_of o c.args.trail.now).1) (plain_known c.in-Ok.plain (view c.args.value.now) c.in-Ok.ensures.same c.in-Ok.ensures.whole)) (adds_none c.args.rows.now)
