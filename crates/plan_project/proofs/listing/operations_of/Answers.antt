-- One document more, and all of them.
use Rattle.std.proofs.Common.{rules, List, is_some, ap, sym, subst, ◌∙◌}
use Rattle.std.specs.BTreeMap.{get_by_text}
use Rattle.plan_ir.specs.gql_ast.declared.document.Definition.{Definition}
use Rattle.plan_project.proofs.KeptPlans.{operations_filled}
use Rattle.plan_project.proofs.Looking.{in_document, takes_next, takes_nothing}
use Rattle.plan_project.proofs.Trees.{operations_there}
use Rattle.plan_project.proofs.listing.operations_of.Goals as goal
use Rattle.plan_project.specs.Filling.{IsOperationOf, Takes, first_of, operation_under}

pub documents-init : goal.documents-init
documents-init c = takes_nothing (IsOperationOf c.args.planner.now.expander.schema.now c.args.planner.now.expander.documents.now) (get_by_text c.new-operations.result)

pub put_operations-requires-clause-there : goal.put_operations-requires-clause-there
put_operations-requires-clause-there c = λ n h.
    operations_there c.args.planner.now.expander.schema.now c.args.planner.now.expander.documents.now c.as_slice-document-items.result.now c.documents.document-index c.document-item.result
    c.as_slice-document-items.ensures c.documents-test.true c.document-item.is n (ap (λ ds. is_some (first_of (operation_under n) ds)) (sym c.as_slice.ensures) ∙ h)

pub documents-preserved : goal.documents-preserved
documents-preserved c =
    let defs = c.args.planner.now.expander.schema.now in
    let ps = c.args.planner.now.expander.documents.now in
    takes_next (IsOperationOf defs ps) (λ n. in_document (operation_under n)) c.as_slice-document-items.result.now c.documents.document-index c.document-item.result
    (get_by_text c.new-operations.result) (get_by_text c.documents.operations) (get_by_text c.put_operations.new.operations) c.documents-test.true c.document-item.is
    c.documents.invariant
    (subst (λ (ds : List Definition). Takes (IsOperationOf defs ps) (λ n. first_of (operation_under n) ds) (get_by_text c.documents.operations) (get_by_text c.put_operations.new.operations))
    c.as_slice.ensures c.in_ok-put_operations.ensures)

pub returns : goal.returns
returns c =
    operations_filled c.args.planner.now.expander.schema.now c.args.planner.now.expander.documents.now c.requires.accepted c.as_slice-document-items.result.now c.documents.document-index
    (get_by_text c.new-operations.result) (get_by_text c.documents.operations) c.as_slice-document-items.ensures c.documents-test.false (λ n. search rules) c.documents.invariant
