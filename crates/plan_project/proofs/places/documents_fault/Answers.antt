-- The node is among the places of a document, or behind them.
use Rattle.std.proofs.Common.{◌≡◌, ◌+◌, ◌-◌, ◌<◌, Some, length, drop, get_or, ap, sym, ◌∙◌, arith}
use Rattle.plan_ir.specs.gql_ast.declared.place.Placed.{Placed}
use Rattle.plan_ir.specs.gql_ast.declared.document.Document.{Document}
use Rattle.plan_project.proofs.PlaceSteps.{place_here, place_behind, left_behind}
use Rattle.plan_project.proofs.places.documents_fault.Goals as goal
use Rattle.plan_project.specs.Faults.{place_at}
use Rattle.plan_ir.specs.schema_types.DocumentRules.{places_of}

pub returns-then-left-len : goal.returns-then-left-len
returns-then-left-len c =
    let within : c.documents.left < length c.document-item.result.places = grind arith in
    let here : place_at (places_of (drop c.documents.document-index c.as_slice-document-items.result.now)) c.documents.left ≡ Some c.index.result.now =
    place_here c.as_slice-document-items.result.now c.documents.document-index c.document-item.result c.documents.left c.index.result.now (omega arith) c.document-item.is within
    ∙ ap Some (sym (ap (λ (q : Placed Document). get_or q.places c.documents.left c.index.result.now) c.document.view_is) ∙ sym c.index.ensures) in
    record {
      place = c.index.result.now;
      there = sym c.documents.invariant.same ∙ here;
      fault = c.fault_at.ensures;
    }

pub documents-preserved : goal.documents-preserved
documents-preserved c =
    let ps = c.as_slice-document-items.result.now in
    let i = c.documents.document-index in
    let p = c.document-item.result in
    let left = c.documents.left in
    let next = left - c.len-left.result in
    let behind : left ≡ length p.places + next = grind arith in
    record {
      same = sym (place_behind ps i p left next (omega arith) c.document-item.is behind) ∙ c.documents.invariant.same;
      within = left_behind ps i p left next (omega arith) c.document-item.is behind c.documents.invariant.within;
    }
