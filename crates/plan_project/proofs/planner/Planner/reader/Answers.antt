-- The plan that reads is that of the project's operation or fragment.
use Rattle.std.proofs.Common.{◌≡◌, List, Some, is_some, ap, sym, subst, ◌∙◌}
use Rattle.plan_ir.specs.gql_ast.declared.document.Document.{Document}
use Rattle.plan_ir.specs.gql_ast.declared.place.Placed.{Placed}
use Rattle.plan_ir.specs.declared.reader.ReaderPlan.{ReaderPlan}
use Rattle.plan_project.proofs.KeptReaders.{is_on_composite}
use Rattle.plan_project.proofs.planner.Planner.reader.Goals as goal
use Rattle.plan_read.specs.Plans.{reader_in}
use Rattle.plan_read.specs.Premises.{IsOnComposite}
use Rattle.plan_ir.specs.schema_tables.Types.{Defs}

pub plan-requires-clause-there : goal.plan-requires-clause-there
plan-requires-clause-there c =
    let k = c.requires.ready in
    (λ i. is_some (reader_in (k.same_schema i) (k.same_documents i) c.args.form c.args.name.now)) ∙ c.requires.there

pub plan-requires-clause-composite : goal.plan-requires-clause-composite
plan-requires-clause-composite c =
    let k = c.requires.ready in
    let e = c.args.self.now.expander in
    subst (λ (defs : Defs). IsOnComposite defs c.args.self.now.readers.documents.now c.args.form c.args.name.now) (sym k.same_schema)
    (subst (λ (ps : List (Placed Document)). IsOnComposite e.schema.now ps c.args.form c.args.name.now) (sym k.same_documents)
    (is_on_composite e.schema.now e.documents.now k.accepted c.args.form c.args.name.now))

pub returns : goal.returns
returns c =
    let k = c.requires.ready in
    ap (λ (p : ReaderPlan). Some p.steps) (c.in_ok-reader.ensures.ok ∙ c.in_ok-kept.ensures) ∙ c.in_ok-plan.ensures
    ∙ (λ i. reader_in (k.same_schema i) (k.same_documents i) c.args.form c.args.name.now)
