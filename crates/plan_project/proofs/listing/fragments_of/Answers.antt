-- One document more, and all of them.
use Rattle.std.proofs.Common.{rules, List, is_some, ap, sym, subst, ◌∙◌}
use Rattle.std.specs.BTreeMap.{get_by_text}
use Rattle.plan_ir.specs.gql_ast.declared.document.Definition.{Definition}
use Rattle.plan_project.proofs.KeptPlans.{fragments_filled}
use Rattle.plan_project.proofs.Looking.{in_document, takes_next, takes_nothing}
use Rattle.plan_project.proofs.Trees.{fragments_there}
use Rattle.plan_project.proofs.listing.fragments_of.Goals as goal
use Rattle.plan_project.specs.Filling.{IsFragmentOf, Takes, first_of, fragment_under}

pub documents-init : goal.documents-init
documents-init c = takes_nothing (IsFragmentOf c.args.planner.now.expander.schema.now c.args.planner.now.expander.documents.now) (get_by_text c.new-fragments.result)

pub put_fragments-requires-clause-there : goal.put_fragments-requires-clause-there
put_fragments-requires-clause-there c = λ n h.
    fragments_there c.args.planner.now.expander.schema.now c.args.planner.now.expander.documents.now c.as_slice-document-items.result.now c.documents.document-index c.document-item.result
    c.as_slice-document-items.ensures c.documents-test.true c.document-item.is n (ap (λ ds. is_some (first_of (fragment_under n) ds)) (sym c.as_slice.ensures) ∙ h)

pub documents-preserved : goal.documents-preserved
documents-preserved c =
    let defs = c.args.planner.now.expander.schema.now in
    let ps = c.args.planner.now.expander.documents.now in
    takes_next (IsFragmentOf defs ps) (λ n. in_document (fragment_under n)) c.as_slice-document-items.result.now c.documents.document-index c.document-item.result
    (get_by_text c.new-fragments.result) (get_by_text c.documents.fragments) (get_by_text c.put_fragments.new.fragments) c.documents-test.true c.document-item.is
    c.documents.invariant
    (subst (λ (ds : List Definition). Takes (IsFragmentOf defs ps) (λ n. first_of (fragment_under n) ds) (get_by_text c.documents.fragments) (get_by_text c.put_fragments.new.fragments))
    c.as_slice.ensures c.in_ok-put_fragments.ensures)

pub returns : goal.returns
returns c =
    fragments_filled c.args.planner.now.expander.schema.now c.args.planner.now.expander.documents.now c.requires.accepted c.as_slice-document-items.result.now c.documents.document-index
    (get_by_text c.new-fragments.result) (get_by_text c.documents.fragments) c.as_slice-document-items.ensures c.documents-test.false (λ n. search rules) c.documents.invariant
