-- One definition more, and all of them.
use Rattle.std.proofs.Common.{List, map, subst}
use Rattle.std.proofs.lemmas.List.{drop_all}
use Rattle.plan_read.specs.doc_sites.SitesView.{definition_of}
use Rattle.plan_ir.specs.gql_ast.declared.document.Document.{Document}
use Rattle.plan_ir.specs.gql_ast.declared.place.Placed.{Placed}
use Rattle.plan_project.proofs.NotingSteps.{noted_all, noted_first, noted_next}
use Rattle.plan_project.proofs.expansions.note_all.Goals as goal
use Rattle.plan_project.specs.Noting.{HasNotedAt}
use Rattle.plan_ir.specs.schema_tables.Types.{Defs}

pub definitions-init : goal.definitions-init
definitions-init c =
    noted_first c.args.schema.now c.args.documents.now c.new-noted.result (map definition_of c.args.definitions.now) c.new-noted.ensures.size c.new-noted.ensures.depth
    c.new-noted.ensures.values c.new-noted.ensures.fields

pub definitions-preserved : goal.definitions-preserved
definitions-preserved c =
    let old = c.definitions.noted in
    let new = c.note_definition.new.noted in
    let d = definition_of c.definition-item.result in
    let noted : HasNotedAt c.args.schema.now c.args.documents.now old new d =
    subst (λ (defs : Defs). HasNotedAt defs c.args.documents.now old new d) c.in_ok-expander.ensures.schema
    (subst (λ (ps : List (Placed Document)). HasNotedAt c.in_ok-expander.expander.schema.now ps old new d) c.in_ok-expander.ensures.documents c.in_ok-note_definition.ensures) in
    noted_next c.args.schema.now c.args.documents.now old new c.args.definitions.now c.definitions.definition-index c.definition-item.result (map definition_of c.args.definitions.now)
    c.definitions-test.true c.definition-item.is noted c.definitions.invariant

pub returns : goal.returns
returns c =
    noted_all c.args.schema.now c.args.documents.now c.definitions.noted c.args.definitions.now c.definitions.definition-index
    (drop_all c.definitions.definition-index c.args.definitions.now c.definitions-test.false) c.requires c.definitions.invariant
