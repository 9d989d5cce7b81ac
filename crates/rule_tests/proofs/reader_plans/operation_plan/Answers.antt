-- An operation that is found has a plan.
use Rattle.std.proofs.Common.{◌≡◌, true, is_some, sym, ◌∙◌}
use Rattle.plan_ir.specs.declared.form.Form.TheVariants as F
use Rattle.plan_project.specs.Lookups.{operation_in}
use Rattle.plan_read.specs.Plans.{reader_in}
use Rattle.rule_tests.proofs.FoundPlans.{is_there, operation_has_reader}
use Rattle.rule_tests.proofs.reader_plans.operation_plan.Goals as goal

pub reader_plan-requires-clause-there : goal.reader_plan-requires-clause-there
reader_plan-requires-clause-there c =
    let p = c.args.project.now in
    let n = c.as_str.result.now in
    let found : is_some (operation_in p.0 p.1 n) ≡ true = is_there _ _ _ _ c.operation.ensures.kept c.is_none.ensures c.if-is_none.false in
    (λ i. is_some (reader_in (c.schema.ensures i) (c.documents.ensures i) F.Operation (sym c.as_str.ensures i))) ∙ operation_has_reader p.0 p.1 n found
