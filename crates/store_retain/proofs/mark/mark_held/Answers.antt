-- The walk along the part of the plan.
use Rattle.std.proofs.Common.{◌||◌, sym, ap, ◌∙◌, subst, rules}
use Rattle.plan_ir.specs.gql_plain.Order.{has_text}
use Rattle.plan_ir.specs.NormalReach.{records_below}
use Rattle.plan_ir.specs.declared.normal.NormalPlan.{NormalPlan}
use Rattle.plan_ir.specs.constant_values.declared.env.Env.{Env}
use Rattle.store_retain.proofs.MarkSteps.{mark_is}
use Rattle.store_retain.proofs.TableSteps.{begins_self}
use Rattle.store_retain.proofs.mark.mark_held.Goals as goal
use Rattle.store_retain.specs.RoadView.{table_of}
use Rattle.store_retain.specs.Stands.{Begins, StandsFor}
use Rattle.store_retain.specs.Steps.{slots_of}

pub returns-clause-ids : goal.returns-clause-ids
returns-clause-ids g c = λ j.
    c.in_ok-walk.ensures.ids j
    ∙ ap (λ ts. has_text c.args.found.now.ids j || has_text ts j)
    (mark_is (slots_of (g.S.RecordSource.records c.args.source.now)) (table_of c.deref-5.result.now) c.args.held.now c.in_ok-number.number c.levels-rounds.result _ c.in_ok-types.types _ _
    c.levels-rounds.ensures (ap (λ (p : NormalPlan). records_below p.steps) c.deref-3.ensures) c.in_ok-types.ensures (c.as_str-root.ensures ∙ ap (λ (e : Env). e.root) c.deref-4.ensures)
    (search rules)
    (λ n. subst (λ p. StandsFor (table_of c.deref-5.result.now) n c.in_ok-number.number p) (λ i. record { environment = (c.deref.ensures i).values; steps = (c.deref-2.ensures i).steps })
    (c.in_ok-number.ensures.stands (table_of c.deref-5.result.now)
    (subst (λ xs. Begins (table_of c.put_plan.new.self.parts.items) (table_of xs)) (sym c.deref-5.ensures.value) (begins_self (table_of c.put_plan.new.self.parts.items))) n)))
