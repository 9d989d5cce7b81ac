-- The line of the definition of a number; behind the last there is none.
use Rattle.std.proofs.Common.{◌≡◌, ◌<◌, ◌≤◌, List, [], get_or, length, ap, ◌∙◌, arith}
use Rattle.std.proofs.lemmas.Result.{IfOk-weaker}
use Rattle.plan_read.specs.doc_sites.SitesView.{definition_of}
use Rattle.plan_ir.specs.gql_ast.declared.document.Document.{Document}
use Rattle.plan_ir.specs.gql_ast.declared.place.Placed.{Placed}
use Rattle.plan_project.proofs.ArtifactSteps.{limits_at, line_is, no_line}
use Rattle.plan_project.proofs.ready.ReadyProject.line.Goals as goal
use Rattle.plan_project.specs.Expansions.{line_lists, lines_at, list_of}
use Rattle.plan_ir.specs.schema_tables.Types.{Defs}

pub definition_line-requires-clause-within : goal.definition_line-requires-clause-within
definition_line-requires-clause-within c =
    let r = c.self.inside in
    let here : c.args.n < length r.definitions.items = grind arith in
    limits_at r.expander.schema.now r.expander.documents.now r.definitions.items c.args.n c.index.result.now c.self.invariant.1 c.self.invariant.2 here c.index.ensures

pub returns : goal.returns
returns c =
    let r = c.self.inside in
    let here : c.args.n < length r.definitions.items = grind arith in
    let same : lines_at r.expander.schema.now r.expander.documents.now (definition_of c.index.result.now) ≡ get_or (line_lists c.args.self.now.0 c.args.self.now.1) c.args.n [] =
    line_is r.expander.schema.now r.expander.documents.now r.definitions.items c.args.n c.index.result.now c.self.invariant.1 here c.index.ensures
    ∙ ap (λ (p : Defs × List (Placed Document)). get_or (line_lists p.0 p.1) c.args.n []) c.self.view_is in
    IfOk-weaker c.definition_line.result (λ line. list_of line ≡ lines_at r.expander.schema.now r.expander.documents.now (definition_of c.index.result.now))
    (λ line. list_of line ≡ get_or (line_lists c.args.self.now.0 c.args.self.now.1) c.args.n []) (λ line e. e ∙ same) c.definition_line.ensures

pub returns-then-n-len : goal.returns-then-n-len
returns-then-n-len c =
    let r = c.self.inside in
    let behind : length r.definitions.items ≤ c.args.n = grind arith in
    no_line r.expander.schema.now r.expander.documents.now r.definitions.items c.args.n c.self.invariant.1 behind
    ∙ ap (λ (p : Defs × List (Placed Document)). get_or (line_lists p.0 p.1) c.args.n []) c.self.view_is
