-- What is kept of the steps is that of one step more.
use Rattle.std.proofs.Common.{◌≡◌, true, [], ◌∷◌, ◌++◌, ap, ◌∙◌}
use Rattle.plan_ir.proofs.NormalKeys.{keys_pushed}
use Rattle.plan_ir.proofs.NormalLaws.{steps_of-append}
use Rattle.plan_ir.proofs.NormalLeadLaws.{again_pushed}
use Rattle.plan_ir.proofs.NormalLevels.{levels_pushed}
use Rattle.plan_ir.proofs.normal.NormalList.push_again.Goals as goal
use Rattle.plan_ir.specs.Normal.{normal_append}
use Rattle.plan_ir.specs.NormalLeads.{last_lead, lead_of}
use Rattle.plan_ir.specs.NormalView.{step_of, steps_of}

pub invariant_of-self-2 : goal.invariant_of-self-2
invariant_of-self-2 c =
    let xs = c.self.inside.items.items in
    let grown : c.push_reserved.new.self.items ≡ xs ++ c.args.step ∷ [] = c.push_reserved.ensures.items ∙ ap (λ ys. ys ++ c.args.step ∷ []) c.in_ok-reserve.ensures.items in
    let keyed : c.push_reserved-2.new.self.items ≡ c.self.inside.keys.items ++ c.in_ok-key.key ∷ [] = c.push_reserved-2.ensures.items ∙ ap (λ ks. ks ++ c.in_ok-key.key ∷ []) c.in_ok-reserve-2.ensures.items in
    let marked : c.push_reserved-3.new.self.items ≡ c.self.inside.again.items ++ c.args.again ∷ [] = c.push_reserved-3.ensures.items ∙ ap (λ bs. bs ++ c.args.again ∷ []) c.in_ok-reserve-3.ensures.items in
    let last : c.args.again ≡ true → last_lead (steps_of xs) ≡ lead_of (step_of c.args.step) = λ e. ap last_lead c.self.view_is ∙ c.requires e in (
      keys_pushed xs c.push_reserved.new.self.items c.args.step c.self.inside.keys.items c.push_reserved-2.new.self.items c.in_ok-key.key c.self.invariant.0 c.in_ok-key.ensures keyed grown,
      levels_pushed xs c.push_reserved.new.self.items c.args.step c.self.inside.levels c.in-Some.levels c.self.invariant.1 c.in-Some.ensures grown,
      again_pushed xs c.push_reserved.new.self.items c.args.step c.args.again c.self.inside.again.items c.push_reserved-3.new.self.items c.self.invariant.2 last marked grown,
    )

pub returns-clause-ok : goal.returns-clause-ok
returns-clause-ok c =
    let xs = c.self.inside.items.items in
    let grown : c.push_reserved.new.self.items ≡ xs ++ c.args.step ∷ [] = c.push_reserved.ensures.items ∙ ap (λ ys. ys ++ c.args.step ∷ []) c.in_ok-reserve.ensures.items in
    ap steps_of grown ∙ steps_of-append xs (c.args.step ∷ []) ∙ ap (λ s. normal_append s (step_of c.args.step)) c.self.view_is
