-- One more step, and the parts below it.
use Rattle.std.proofs.Common.{◌≡◌, ◌<◌, ◌≤◌, [], ◌∷◌, length, map, None, Some, IfOk, OnOk, refl, sym, ap, ◌∙◌, subst, rules, arith}
use Rattle.std.proofs.lemmas.List.{length-map, map-append}
use Rattle.std.proofs.lemmas.Result.{on_ok_weaker}
use Rattle.plan_groups.proofs.WalkSteps.{guarded_deep, step_below}
use Rattle.plan_ir.specs.Normal.{depth, done, guarded}
use Rattle.plan_ir.proofs.NormalLeadLaws.{marks_counted}
use Rattle.plan_ir.specs.NormalLeads.{lead_of}
use Rattle.plan_ir.specs.NormalView.{step_of}
use Rattle.store_retain.proofs.TableSteps.{adds_none, adds_same, begins_self, begins_then, grows_one, guarded_asks, guarded_none, known_here, known_next, lead_alone, lead_of_part, leaf_adds, object_adds, object_deep, stands_new, steps_end, steps_first, steps_left, typename_adds}
use Rattle.store_retain.proofs.table.Table.+table.Goals as goal
use Rattle.store_retain.specs.RoadView.{part_of, table_of}
use Rattle.store_retain.specs.Stands.{Adds, IsLead, asked_by}
use Rattle.store_retain.specs.TrailView.{way_of}

-- ---- a plan

pub put_plan-put_steps-requires : goal.put_plan-put_steps-requires
put_plan-put_steps-requires t c = (omega arith, c.requires)

pub put_plan-returns-clause-grows : goal.put_plan-returns-clause-grows
put_plan-returns-clause-grows t c =
    grows_one (table_of c.args.self.now.parts.items) (table_of c.put_steps.new.self.parts.items) _ (map way_of c.put_steps.new.trails.items)
    (ap table_of c.in_ok-push.ensures.items ∙ map-append part_of c.put_steps.new.self.parts.items (c.put_steps.new.trails ∷ [])) c.in_ok-put_steps.ensures.grows

pub put_plan-returns-clause-stands : goal.put_plan-returns-clause-stands
put_plan-returns-clause-stands t c = λ later begins n.
    let counted : c.len-number.result ≡ length c.put_steps.new.self.parts.items = grind (arith, c.len-number.ensures) in
    stands_new (table_of c.put_steps.new.self.parts.items) _ (map way_of c.put_steps.new.trails.items) c.len-number.result c.args.env.now.values c.args.steps.now
    (ap table_of c.in_ok-push.ensures.items ∙ map-append part_of c.put_steps.new.self.parts.items (c.put_steps.new.trails ∷ []))
    (counted ∙ sym (length-map c.put_steps.new.self.parts.items part_of))
    (subst (λ ts. Adds (table_of c.put_steps.new.self.parts.items) (map way_of ts) (map way_of c.put_steps.new.trails.items) (asked_by None c.args.env.now.values c.args.steps.now)) c.new-trails.ensures.items c.in_ok-put_steps.ensures.adds)
    later begins n

-- ---- steps

pub put_steps-steps-init : goal.put_steps-steps-init
put_steps-steps-init t c = record {
  within = c.as_slice-items.ensures;
  nothing = c.requires;
  grows = begins_self (table_of c.args.self.now.parts.items);
  left = steps_first (table_of c.args.self.now.parts.items) c.args.on.now c.args.env.now.values (map way_of c.args.trails.now.items) _ _ c.as_slice-items.ensures;
  marks = c.again-again.ensures;
  last = tt;
}

pub put_steps-bounds-again-at : goal.put_steps-bounds-again-at
put_steps-bounds-again-at t c =
    let inside : c.steps.at < length c.as_slice-items.result.now = search rules in
    let many : length c.again-again.result.now ≡ length c.as_slice-items.result.now = marks_counted c.again-again.result.now c.as_slice-items.result.now c.args.steps.now c.steps.invariant.marks c.steps.invariant.within in
    omega (arith, inside, many)

pub put_steps-put_step-requires : goal.put_steps-put_step-requires
put_steps-put_step-requires t c =
    let inside : c.steps.at < length c.as_slice-items.result.now = search rules in
    let less : depth (step_of c.index-items-at.result) ≤ depth c.args.steps.now = step_below _ _ c.steps.at c.index-items-at.result inside c.index-items-at.is c.steps.invariant.within in
    let known = known_here (table_of c.steps.self.parts.items) c.args.env.now.values c.as_slice-items.result.now c.again-again.result.now c.args.steps.now c.steps.at c.index-items-at.result c.steps.last c.known_again-known.result
    inside c.index-items-at.is c.steps.invariant.within c.steps.invariant.marks c.steps.invariant.last c.known_again-known.ensures in
    (omega arith, (c.steps.invariant.nothing, known))

pub put_steps-steps-preserved : goal.put_steps-steps-preserved
put_steps-steps-preserved t c =
    let inside : c.steps.at < length c.as_slice-items.result.now = search rules in
    record {
      within = c.steps.invariant.within;
      nothing = begins_then ([] ∷ []) (table_of c.steps.self.parts.items) (table_of c.put_step.new.self.parts.items) c.steps.invariant.nothing c.in_ok-last.ensures.grows;
      grows = begins_then (table_of c.args.self.now.parts.items) (table_of c.steps.self.parts.items) (table_of c.put_step.new.self.parts.items) c.steps.invariant.grows c.in_ok-last.ensures.grows;
      left = steps_left c.args.on.now c.args.env.now.values c.as_slice-items.result.now c.steps.at c.index-items-at.result (table_of c.steps.self.parts.items) (table_of c.put_step.new.self.parts.items) (map way_of c.args.trails.now.items) (map way_of c.steps.trails.items)
          (map way_of c.put_step.new.trails.items) c.args.steps.now inside c.index-items-at.is c.in_ok-last.ensures.grows c.in_ok-last.ensures.adds c.steps.invariant.left;
      marks = c.steps.invariant.marks;
      last = known_next (table_of c.put_step.new.self.parts.items) c.args.env.now.values c.as_slice-items.result.now c.args.steps.now c.steps.at c.index-items-at.result c.in_ok-last.last inside c.index-items-at.is c.steps.invariant.within c.in_ok-last.ensures.lead;
    }

pub put_steps-returns-clause-adds : goal.put_steps-returns-clause-adds
put_steps-returns-clause-adds t c =
    steps_end (table_of c.steps.self.parts.items) c.args.on.now c.args.env.now.values c.as_slice-items.result.now c.steps.at (map way_of c.args.trails.now.items) (map way_of c.steps.trails.items) c.args.steps.now (omega arith) c.steps.invariant.left

-- ---- a step

pub put_step-put_below-requires : goal.put_step-put_below-requires
put_step-put_below-requires t c =
    let less : depth c.in-Object.child.steps < depth (step_of c.args.step.now) = object_deep _ _ _ _ _ _ _ _ _ _ c.in-Object.is in
    (omega arith, (c.requires.begun, subst (λ y. IsLead (table_of c.args.self.now.parts.items) c.args.env.now.values c.args.known (lead_of (step_of y))) c.in-Object.is c.requires.known))

pub put_step-put_guarded-requires : goal.put_step-put_guarded-requires
put_step-put_guarded-requires t c =
    let less : depth c.in-Guarded.child.steps < depth (step_of c.args.step.now) = guarded_deep _ _ _ c.in-Guarded.is in
    (omega arith, (c.requires.begun, subst (λ y. IsLead (table_of c.args.self.now.parts.items) c.args.env.now.values c.args.known (lead_of (step_of y))) c.in-Guarded.is c.requires.known))

pub put_step-returns-in_ok-push-in-Typename-clause-grows : goal.put_step-returns-in_ok-push-in-Typename-clause-grows
put_step-returns-in_ok-push-in-Typename-clause-grows t c = begins_self (table_of c.args.self.now.parts.items)

pub put_step-returns-in_ok-push-in-Typename-clause-adds : goal.put_step-returns-in_ok-push-in-Typename-clause-adds
put_step-returns-in_ok-push-in-Typename-clause-adds t c =
    typename_adds (table_of c.args.self.now.parts.items) (map way_of c.args.trails.now.items) _ c.args.on.now c.args.env.now.values c.args.step.now (way_of c.in_ok-trail-in-Typename.trail) c.requires.begun
    (ap (map way_of) c.in_ok-push-in-Typename.ensures.items ∙ map-append way_of c.args.trails.now.items (c.in_ok-trail-in-Typename.trail ∷ [])) _ c.in-Typename.is c.in_ok-trail-in-Typename.ensures

pub put_step-returns-in_ok-push-in-Leaf-clause-grows : goal.put_step-returns-in_ok-push-in-Leaf-clause-grows
put_step-returns-in_ok-push-in-Leaf-clause-grows t c = begins_self (table_of c.args.self.now.parts.items)

pub put_step-returns-in_ok-push-in-Leaf-clause-adds : goal.put_step-returns-in_ok-push-in-Leaf-clause-adds
put_step-returns-in_ok-push-in-Leaf-clause-adds t c =
    leaf_adds (table_of c.args.self.now.parts.items) (map way_of c.args.trails.now.items) _ c.args.on.now c.args.env.now.values c.args.step.now (way_of c.in_ok-trail-in-Leaf.trail) c.requires.begun
    (ap (map way_of) c.in_ok-push-in-Leaf.ensures.items ∙ map-append way_of c.args.trails.now.items (c.in_ok-trail-in-Leaf.trail ∷ [])) _ _ _ c.new-types.result c.in-Leaf.is c.new-types.ensures c.in_ok-trail-in-Leaf.ensures

pub put_step-returns-in_ok-push-in-Object-clause-grows : goal.put_step-returns-in_ok-push-in-Object-clause-grows
put_step-returns-in_ok-push-in-Object-clause-grows t c = c.in_ok-below-in-Object.ensures.grows

pub put_step-returns-in_ok-push-in-Object-clause-adds : goal.put_step-returns-in_ok-push-in-Object-clause-adds
put_step-returns-in_ok-push-in-Object-clause-adds t c =
    object_adds (table_of c.put_below.new.self.parts.items) (map way_of c.args.trails.now.items) _ c.args.on.now c.args.env.now.values c.args.step.now (way_of c.in_ok-trail-in-Object.trail)
    (begins_then ([] ∷ []) (table_of c.args.self.now.parts.items) (table_of c.put_below.new.self.parts.items) c.requires.begun c.in_ok-below-in-Object.ensures.grows)
    (ap (map way_of) c.in_ok-push-in-Object.ensures.items ∙ map-append way_of c.args.trails.now.items (c.in_ok-trail-in-Object.trail ∷ []))
    _ _ _ _ _ _ _ _ _ c.in_ok-types-in-Object.types c.in_ok-below-in-Object.below c.in-Object.is c.in_ok-types-in-Object.ensures c.in_ok-trail-in-Object.ensures c.in_ok-below-in-Object.ensures.stands

pub put_step-returns-in-Guarded-clause-adds : goal.put_step-returns-in-Guarded-clause-adds
put_step-returns-in-Guarded-clause-adds t c =
    subst (λ y. OnOk c.put_guarded.result (Adds (table_of c.put_guarded.new.self.parts.items) (map way_of c.args.trails.now.items) (map way_of c.put_guarded.new.trails.items) (asked_by c.args.on.now c.args.env.now.values (step_of y))))
    (sym c.in-Guarded.is) c.put_guarded.ensures.adds

pub put_step-returns-in_ok-push-in-Object-clause-lead : goal.put_step-returns-in_ok-push-in-Object-clause-lead
put_step-returns-in_ok-push-in-Object-clause-lead t c =
    lead_of_part (table_of c.put_below.new.self.parts.items) c.args.env.now.values c.in_ok-below-in-Object.below c.in-Object.child.steps (lead_of (step_of c.args.step.now)) (ap (λ y. lead_of (step_of y)) c.in-Object.is) c.in_ok-below-in-Object.ensures.stands

pub put_step-returns-in-Guarded-clause-lead : goal.put_step-returns-in-Guarded-clause-lead
put_step-returns-in-Guarded-clause-lead t c =
    subst (λ y. IfOk c.put_guarded.result (λ number. IsLead (table_of c.put_guarded.new.self.parts.items) c.args.env.now.values number (lead_of (step_of y)))) (sym c.in-Guarded.is) c.put_guarded.ensures.lead

-- ---- a guard

pub put_guarded-put_let-requires : goal.put_guarded-put_let-requires
put_guarded-put_let-requires t c = (omega arith, (c.requires.begun, c.requires.known))

pub put_guarded-returns-then-not-may_pass-clause-grows : goal.put_guarded-returns-then-not-may_pass-clause-grows
put_guarded-returns-then-not-may_pass-clause-grows t c = begins_self (table_of c.args.self.now.parts.items)

pub put_guarded-returns-then-not-may_pass-clause-adds : goal.put_guarded-returns-then-not-may_pass-clause-adds
put_guarded-returns-then-not-may_pass-clause-adds t c =
    adds_none (table_of c.args.self.now.parts.items) (map way_of c.args.trails.now.items) (asked_by c.args.on.now c.args.env.now.values (guarded c.args.guard.now c.args.child.now done)) (guarded_none c.args.on.now c.args.env.now.values c.args.guard.now c.args.child.now c.in_ok-may_pass.may_pass c.in_ok-may_pass.ensures c.if-not-may_pass.true)

pub put_guarded-returns-clause-adds : goal.put_guarded-returns-clause-adds
put_guarded-returns-clause-adds t c =
    on_ok_weaker c.put_let.result
    (adds_same (table_of c.put_let.new.self.parts.items) (map way_of c.args.trails.now.items) (map way_of c.put_let.new.trails.items) (asked_by c.in_ok-narrowed.narrowed c.args.env.now.values c.args.child.now)
    (asked_by c.args.on.now c.args.env.now.values (guarded c.args.guard.now c.args.child.now done)) (guarded_asks c.args.on.now c.in_ok-narrowed.narrowed c.args.env.now.values c.args.guard.now c.args.child.now c.in_ok-may_pass.may_pass c.in_ok-may_pass.ensures c.if-not-may_pass.false c.in_ok-narrowed.ensures))
    c.put_let.ensures.adds

-- ---- what stands below a field

pub put_below-put_plan-requires : goal.put_below-put_plan-requires
put_below-put_plan-requires t c = (omega arith, c.requires.begun)

pub put_below-returns-in-Some-clause-grows : goal.put_below-returns-in-Some-clause-grows
put_below-returns-in-Some-clause-grows t c = begins_self (table_of c.args.self.now.parts.items)

pub put_below-returns-in-Some-clause-stands : goal.put_below-returns-in-Some-clause-stands
put_below-returns-in-Some-clause-stands t c = λ later begins n.
    subst (λ k. IsLead (table_of c.args.self.now.parts.items) c.args.env.now.values k (Some c.args.steps.now)) c.in-Some.is c.requires.known later begins n c.args.steps.now refl

-- ---- what a guard lets

pub put_let-put_step-requires : goal.put_let-put_step-requires
put_let-put_step-requires t c =
    let one : length c.as_slice.result.now ≡ 1 = omega arith in
    let alone : step_of c.step-item.result ≡ c.args.steps.now = lead_alone c.as_slice.result.now c.step-item.result c.args.steps.now one c.step-item.is c.as_slice.ensures in
    let same : depth (step_of c.step-item.result) ≡ depth c.args.steps.now = ap depth alone in
    (omega (arith, same), (c.requires.begun, subst (λ s. IsLead (table_of c.args.self.now.parts.items) c.args.env.now.values c.args.known (lead_of s)) (sym alone) c.requires.known))

pub put_let-put_steps-requires : goal.put_let-put_steps-requires
put_let-put_steps-requires t c = (omega arith, c.requires.begun)

pub put_let-returns-in-len1-clause-adds : goal.put_let-returns-in-len1-clause-adds
put_let-returns-in-len1-clause-adds t c =
    let one : length c.as_slice.result.now ≡ 1 = omega arith in
    let alone : step_of c.step-item.result ≡ c.args.steps.now = lead_alone c.as_slice.result.now c.step-item.result c.args.steps.now one c.step-item.is c.as_slice.ensures in
    subst (λ s. OnOk c.put_step.result (Adds (table_of c.put_step.new.self.parts.items) (map way_of c.args.trails.now.items) (map way_of c.put_step.new.trails.items) (asked_by c.args.on.now c.args.env.now.values s))) alone c.put_step.ensures.adds

pub put_let-returns-in-len1-clause-lead : goal.put_let-returns-in-len1-clause-lead
put_let-returns-in-len1-clause-lead t c =
    let one : length c.as_slice.result.now ≡ 1 = omega arith in
    let alone : step_of c.step-item.result ≡ c.args.steps.now = lead_alone c.as_slice.result.now c.step-item.result c.args.steps.now one c.step-item.is c.as_slice.ensures in
    subst (λ s. IfOk c.put_step.result (λ number. IsLead (table_of c.put_step.new.self.parts.items) c.args.env.now.values number (lead_of s))) alone c.put_step.ensures.lead
