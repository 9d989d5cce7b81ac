-- The fragment has these nodes.
use Rattle.std.proofs.Common.{◌≡◌, Some, ap, subst, ◌∙◌}
use Rattle.std.specs.Prelude.{Ok}
use Rattle.plan_ir.specs.Nodes.{Nodes}
use Rattle.plan_ir.specs.Substitution.{mark_local}
use Rattle.plan_ir.specs.declared.expanded.Expanded.{Expanded}
use Rattle.plan_ir.specs.Projects.{Places}
use Rattle.plan_expand.specs.Making.{Ready}
use Rattle.plan_expand.specs.Preparing.{extent_made, fragment_with, nodes_made}
use Rattle.plan_expand.specs.ReadyView.{ready_of}
use Rattle.plan_expand.specs.Sizes.{nothing}
use Rattle.plan_expand.specs.Verdicts.{IsOutcome}
use Rattle.plan_expand.specs.declared.size.Size.{Size}
use Rattle.plan_expand.specs.declared.extent.Extent.{Extent}
use Rattle.plan_expand.proofs.Outcomes.{fault_as}
use Rattle.plan_expand.proofs.expander.Expander.expand_alone.Goals as goal

pub returns-in-Ok-expanded_fragment : goal.returns-in-Ok-expanded_fragment
returns-in-Ok-expanded_fragment c =
    let r : Ready = ready_of c.args.ready.now in
    let e : Extent = extent_made c.args.self.now nothing (Some r.on) r.selections in
    let ns : Nodes = nodes_made c.args.self.now (λ m. mark_local m (r.locals m)) r.places (Some r.on) r.selections in
    let sized : IsOutcome e (λ (x : Nodes). x ≡ nodes_made c.args.self.now (λ m. mark_local m (r.locals m)) c.deref.result.now (Some r.on) r.selections) c.make-made.result =
    subst (λ (s : Size). IsOutcome (extent_made c.args.self.now s (Some r.on) r.selections) (λ (x : Nodes). x ≡ nodes_made c.args.self.now (λ m. mark_local m (r.locals m)) c.deref.result.now (Some r.on) r.selections) c.make-made.result)
    c.nothing-own.ensures c.make-made.ensures in
    let made : IsOutcome e (λ (x : Nodes). x ≡ ns) c.make-made.result =
    subst (λ (hs : Places). IsOutcome e (λ (x : Nodes). x ≡ nodes_made c.args.self.now (λ m. mark_local m (r.locals m)) hs (Some r.on) r.selections) c.make-made.result) c.deref.ensures.value sized in
    let v : IsOutcome e (λ (x : Nodes). x ≡ ns) (Ok c.in-Ok.selections) = subst (IsOutcome e (λ (x : Nodes). x ≡ ns)) c.in-Ok.is made in
    (c.in-Ok-expanded_fragment.ensures ∙ ap (fragment_with c.args.name.now r.on) v.0, v.1, v.2)

pub returns : goal.returns
returns c =
    let r : Ready = ready_of c.args.ready.now in
    let e : Extent = extent_made c.args.self.now nothing (Some r.on) r.selections in
    let ns : Nodes = nodes_made c.args.self.now (λ m. mark_local m (r.locals m)) r.places (Some r.on) r.selections in
    let sized : IsOutcome e (λ (x : Nodes). x ≡ nodes_made c.args.self.now (λ m. mark_local m (r.locals m)) c.deref.result.now (Some r.on) r.selections) c.make-made.result =
    subst (λ (s : Size). IsOutcome (extent_made c.args.self.now s (Some r.on) r.selections) (λ (x : Nodes). x ≡ nodes_made c.args.self.now (λ m. mark_local m (r.locals m)) c.deref.result.now (Some r.on) r.selections) c.make-made.result)
    c.nothing-own.ensures c.make-made.ensures in
    let made : IsOutcome e (λ (x : Nodes). x ≡ ns) c.make-made.result =
    subst (λ (hs : Places). IsOutcome e (λ (x : Nodes). x ≡ nodes_made c.args.self.now (λ m. mark_local m (r.locals m)) hs (Some r.on) r.selections) c.make-made.result) c.deref.ensures.value sized in
    fault_as (λ (x : Nodes). x ≡ ns) (λ (x : Expanded). x ≡ fragment_with c.args.name.now r.on ns) e c.in-Err.fault (subst (IsOutcome e (λ (x : Nodes). x ≡ ns)) c.in-Err.is made)
