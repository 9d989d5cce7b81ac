-- What is within the limits is made.
use Rattle.std.proofs.Common.{◌≡◌, subst}
use Rattle.std.specs.Prelude.{Ok, option_copied}
use Rattle.plan_ir.specs.Nodes.{Nodes}
use Rattle.plan_expand.specs.Preparing.{extent_made, nodes_made}
use Rattle.plan_expand.specs.ScopeView.{scope_of}
use Rattle.plan_expand.specs.Verdicts.{IsVerdict}
use Rattle.plan_expand.specs.declared.extent.Extent.{Extent}
use Rattle.plan_expand.proofs.Outcomes.{fault_as}
use Rattle.plan_expand.proofs.expander.Expander.make.Goals as goal

pub returns-in-Ok-make_nodes : goal.returns-in-Ok-make_nodes
returns-in-Ok-make_nodes c =
    let e : Extent = extent_made c.args.self.now c.args.values (option_copied c.args.around) c.args.selections.now in
    let v : IsVerdict {A = Unit {0}} e (Ok c.in-Ok.field-0) = subst (IsVerdict {A = Unit {0}} e) c.in-Ok.is c.check_extent-checked.ensures in
    (c.in-Ok-make_nodes.ensures, v.1, v.2)

pub returns-in-Err : goal.returns-in-Err
returns-in-Err c =
    let e : Extent = extent_made c.args.self.now c.args.values (option_copied c.args.around) c.args.selections.now in
    fault_as {A = Unit {0}} (λ u. Unit {0})
    (λ (nodes : Nodes). nodes ≡ nodes_made c.args.self.now (scope_of c.args.scope.now) c.args.places.now (option_copied c.args.around) c.args.selections.now) e c.in-Err.fault
    (subst (IsVerdict {A = Unit {0}} e) c.in-Err.is c.check_extent-checked.ensures)
