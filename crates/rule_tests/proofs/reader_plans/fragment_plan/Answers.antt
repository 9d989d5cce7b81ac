-- A fragment that is found has a plan, and its type is an object, an interface or a union.
use Rattle.std.proofs.Common.{◌≡◌, true, List, is_some, sym, subst, ◌∙◌}
use Rattle.plan_ir.specs.gql_ast.declared.document.Document.{Document}
use Rattle.plan_ir.specs.gql_ast.declared.place.Placed.{Placed}
use Rattle.plan_ir.specs.declared.form.Form.TheVariants as F
use Rattle.plan_ir.specs.schema_tables.Types.{Defs}
use Rattle.plan_project.proofs.KeptReaders.{fragment_has_reader, is_on_composite}
use Rattle.plan_project.specs.Lookups.{fragment_in}
use Rattle.plan_read.specs.Plans.{reader_in}
use Rattle.plan_read.specs.Premises.{IsOnComposite}
use Rattle.rule_tests.proofs.FoundPlans.{is_there}
use Rattle.rule_tests.proofs.reader_plans.fragment_plan.Goals as goal

pub reader_plan-requires-clause-there : goal.reader_plan-requires-clause-there
reader_plan-requires-clause-there c =
    let p = c.args.project.now in
    let n = c.as_str.result.now in
    let found : is_some (fragment_in p.0 p.1 n) ≡ true = is_there _ _ _ _ c.fragment.ensures.kept c.is_none.ensures c.if-is_none.false in
    (λ i. is_some (reader_in (c.schema.ensures i) (c.documents.ensures i) F.Fragment (sym c.as_str.ensures i))) ∙ fragment_has_reader p.0 p.1 n found

pub reader_plan-requires-clause-composite : goal.reader_plan-requires-clause-composite
reader_plan-requires-clause-composite c =
    let p = c.args.project.now in
    let n = c.args.name.now in
    subst (λ (defs : Defs). IsOnComposite defs c.documents.result.now F.Fragment n) (sym c.schema.ensures)
    (subst (λ (ps : List (Placed Document)). IsOnComposite p.0 ps F.Fragment n) (sym c.documents.ensures) (is_on_composite p.0 p.1 c.is_accepted.ensures F.Fragment n))
