-- What is made of the expansion is what the documents have.
use Rattle.std.proofs.Common.{sym, refl, subst}
use Rattle.plan_ir.specs.declared.normal.NormalPlan.{NormalPlan}
use Rattle.plan_project.proofs.KeptPlans.{IsPlanOf, operation_planned}
use Rattle.plan_project.proofs.KeptReaders.{whole_has_reader}
use Rattle.plan_project.proofs.operations.plan_operation.Goals as goal

pub reader-requires-clause-there : goal.reader-requires-clause-there
reader-requires-clause-there c =
    let e = c.args.planner.now.expander in
    whole_has_reader e.schema.now e.documents.now c.args.name.now c.args.expanded c.requires.whole

pub returns : goal.returns
returns c =
    let e = c.args.planner.now.expander in
    let plan = c.in_ok-plan.ensures in
    operation_planned e.schema.now e.documents.now c.requires.ready.accepted c.args.name.now c.args.expanded _ c.requires.whole c.in_ok-copy.ensures c.in-Some.is refl c.in_ok-types.ensures refl
    (subst (λ (p : NormalPlan). IsPlanOf e.schema.now c.args.expanded p.steps) (sym c.in_ok-normal.ensures.ok) (record {
      formed = plan.formed;
      typed = plan.typed;
      paged = plan.paged;
      fits = plan.fits;
      means = plan.means;
      reaches = plan.reaches;
    }))
    c.in_ok-reader.ensures
