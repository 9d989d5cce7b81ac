-- A field behind those of the group.
use Rattle.std.proofs.Common.{◌≡◌, List, [], ◌∷◌, ◌++◌, map, refl, ap, ◌∙◌}
use Rattle.plan_groups.proofs.GroupSteps.{grown, handles_in_order, made_more, made_same}
use Rattle.plan_groups.proofs.group.GroupAt.add.Goals as goal
use Rattle.plan_groups.specs.FieldView.{asked_at, plan_at}
use Rattle.plan_groups.specs.Made.{with_part}
use Rattle.plan_groups.specs.Putting.{with_other}
use Rattle.plan_groups.specs.declared.field.FieldAt.{FieldAt}
use Rattle.plan_groups.specs.declared.field.PlanAt.{PlanAt}

longer : (c : goal.After-push_reserved) → c.push_reserved.new.self.items ≡ c.self.inside.others.items ++ c.args.field ∷ []
longer c = c.push_reserved.ensures.items ∙ ap (λ (fields : List FieldAt). fields ++ c.args.field ∷ []) c.reserve-2.ensures.items

pub put_handle-requires : goal.put_handle-requires
put_handle-requires c = handles_in_order _ _ _ _ c.self.invariant

pub returns : goal.returns
returns c =
    grown c.self.inside.first c.args.field c.self.inside.others.items c.push_reserved.new.self.items (longer c) ∙ ap (λ g. with_other g (asked_at c.args.field)) c.self.view_is

pub invariant_of-self : goal.invariant_of-self
invariant_of-self c =
    made_same c.self.inside.first c.self.inside.others.items c.self.inside.others.items c.self.inside.parts.items c.reserve.new.self.items c.self.inside.key c.self.inside.handles.items c.self.inside.handles.items
    c.self.invariant refl c.reserve.ensures.items refl

pub invariant_of-self-2 : goal.invariant_of-self-2
invariant_of-self-2 c =
    let below : map plan_at c.put_part.new.parts.items ≡ with_part (map plan_at c.self.inside.parts.items) (plan_at c.self.inside.first.part) (plan_at c.args.field.part) =
    c.put_part.ensures ∙ ap (λ (ps : List PlanAt). with_part (map plan_at ps) (plan_at c.self.inside.first.part) (plan_at c.args.field.part)) c.reserve.ensures.items in
    made_more c.self.inside.first c.args.field c.self.inside.others.items c.push_reserved.new.self.items c.self.inside.parts.items c.put_part.new.parts.items c.self.inside.key c.self.inside.handles.items c.put_handle.new.keys.items _ c.self.invariant
    (longer c) below c.in_ok-handle.ensures c.in_ok-put_handle.ensures.ok
