-- The text of the operation of a name: no operation breaks E1 or E2.
use Rattle.std.proofs.Common.{◌≡◌, List, ap, ◌∙◌}
use Rattle.std.proofs.lemmas.Result.{IfOk-weaker}
use Rattle.plan_ir.specs.gql_ast.declared.document.Document.{Document}
use Rattle.plan_ir.specs.gql_ast.declared.place.Placed.{Placed}
use Rattle.plan_project.proofs.ArtifactSteps.{limits_named}
use Rattle.plan_project.proofs.ready.ReadyProject.text.Goals as goal
use Rattle.plan_project.specs.Expansions.{text_named}
use Rattle.plan_ir.specs.schema_tables.Types.{Defs}

pub operation_text_of-requires-clause-few : goal.operation_text_of-requires-clause-few
operation_text_of-requires-clause-few c =
    let r = c.self.inside in
    (limits_named r.expander.schema.now r.expander.documents.now c.args.name.now c.self.invariant.2).0

pub operation_text_of-requires-clause-flat : goal.operation_text_of-requires-clause-flat
operation_text_of-requires-clause-flat c =
    let r = c.self.inside in
    (limits_named r.expander.schema.now r.expander.documents.now c.args.name.now c.self.invariant.2).1

pub returns : goal.returns
returns c =
    let r = c.self.inside in
    let same : text_named r.expander.schema.now r.expander.documents.now c.args.name.now ≡ text_named c.args.self.now.0 c.args.self.now.1 c.args.name.now =
    ap (λ (p : Defs × List (Placed Document)). text_named p.0 p.1 c.args.name.now) c.self.view_is in
    IfOk-weaker c.operation_text_of.result (λ text. text ≡ text_named r.expander.schema.now r.expander.documents.now c.args.name.now)
    (λ text. text ≡ text_named c.args.self.now.0 c.args.self.now.1 c.args.name.now) (λ text e. e ∙ same) c.operation_text_of.ensures
