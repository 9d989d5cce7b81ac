-- There is one list of lines for each definition.
use Rattle.std.proofs.Common.{rules, ◌≡◌, List, length, ap, ◌∙◌}
use Rattle.plan_ir.specs.gql_ast.declared.document.Document.{Document}
use Rattle.plan_ir.specs.gql_ast.declared.place.Placed.{Placed}
use Rattle.plan_project.proofs.ArtifactSteps.{lists_length}
use Rattle.plan_project.proofs.ready.ReadyProject.len.Goals as goal
use Rattle.plan_project.specs.Expansions.{line_lists}
use Rattle.plan_ir.specs.schema_tables.Types.{Defs}

pub returns : goal.returns
returns c =
    let r = c.self.inside in
    let many : c.len.result ≡ length r.definitions.items = search rules in
    many ∙ lists_length r.expander.schema.now r.expander.documents.now r.definitions.items c.self.invariant.1
    ∙ ap (λ (p : Defs × List (Placed Document)). length (line_lists p.0 p.1)) c.self.view_is
