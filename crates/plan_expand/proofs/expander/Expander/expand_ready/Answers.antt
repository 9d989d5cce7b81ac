-- The operation has these nodes.
use Rattle.std.proofs.Common.{◌≡◌, ap, subst, ◌∙◌}
use Rattle.std.specs.Prelude.{Ok}
use Rattle.plan_ir.specs.Nodes.{Nodes}
use Rattle.plan_ir.specs.Substitution.{operation_scope}
use Rattle.plan_ir.specs.declared.expanded.Expanded.{Expanded}
use Rattle.plan_ir.specs.Projects.{Places}
use Rattle.plan_expand.specs.OperationsView.{ReadyOperation, operation_view}
use Rattle.plan_expand.specs.Preparing.{extent_made, nodes_made, operation_with}
use Rattle.plan_expand.specs.Verdicts.{IsOutcome}
use Rattle.plan_expand.specs.declared.extent.Extent.{Extent}
use Rattle.plan_expand.proofs.Outcomes.{fault_as}
use Rattle.plan_expand.proofs.expander.Expander.expand_ready.Goals as goal

pub returns-in-Ok-expanded_operation : goal.returns-in-Ok-expanded_operation
returns-in-Ok-expanded_operation c =
    let o : ReadyOperation = operation_view c.args.ready.now in
    let e : Extent = extent_made c.args.self.now o.size o.around o.selections in
    let ns : Nodes = nodes_made c.args.self.now operation_scope o.places o.around o.selections in
    let made : IsOutcome e (λ (x : Nodes). x ≡ ns) c.make-made.result =
    subst (λ (hs : Places). IsOutcome e (λ (x : Nodes). x ≡ nodes_made c.args.self.now operation_scope hs o.around o.selections) c.make-made.result) c.deref.ensures.value c.make-made.ensures in
    let v : IsOutcome e (λ (x : Nodes). x ≡ ns) (Ok c.in-Ok.selections) = subst (IsOutcome e (λ (x : Nodes). x ≡ ns)) c.in-Ok.is made in
    (c.in-Ok-expanded_operation.ensures ∙ ap (operation_with c.args.name.now o) v.0, v.1, v.2)

pub returns : goal.returns
returns c =
    let o : ReadyOperation = operation_view c.args.ready.now in
    let e : Extent = extent_made c.args.self.now o.size o.around o.selections in
    let ns : Nodes = nodes_made c.args.self.now operation_scope o.places o.around o.selections in
    let made : IsOutcome e (λ (x : Nodes). x ≡ ns) c.make-made.result =
    subst (λ (hs : Places). IsOutcome e (λ (x : Nodes). x ≡ nodes_made c.args.self.now operation_scope hs o.around o.selections) c.make-made.result) c.deref.ensures.value c.make-made.ensures in
    fault_as (λ (x : Nodes). x ≡ ns) (λ (x : Expanded). x ≡ operation_with c.args.name.now o ns) e c.in-Err.fault (subst (IsOutcome e (λ (x : Nodes). x ≡ ns)) c.in-Err.is made)
