-- The place of a node is the one of its number.
use Rattle.std.proofs.Common.{List, get_or, Some, ap, sym, ◌∙◌}
use Rattle.plan_ir.specs.gql_ast.declared.place.FilePlace.{FilePlace}
use Rattle.plan_project.proofs.PlaceSteps.{place_found}
use Rattle.plan_project.proofs.places.schema_fault.Goals as goal

pub returns : goal.returns
returns c = record {
  place = c.index.result.now;
  there =
      place_found c.args.places.now c.args.fault.node c.index.result.now c.requires
      ∙ ap Some (sym (ap (λ (ps : List FilePlace). get_or ps c.args.fault.node c.index.result.now) c.places.view_is) ∙ sym c.index.ensures);
  fault = c.fault_at.ensures;
}
