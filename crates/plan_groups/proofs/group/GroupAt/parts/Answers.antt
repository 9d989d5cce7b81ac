-- That of the one field, or what is kept of several.
use Rattle.std.proofs.Common.{◌≡◌, [], map, length, ap, ◌∙◌, arith}
use Rattle.std.proofs.lemmas.List.{nil_from_length}
use Rattle.plan_groups.proofs.GroupSteps.{kept_parts, no_others, one_part}
use Rattle.plan_groups.proofs.group.GroupAt.parts.Goals as goal
use Rattle.plan_groups.specs.FieldView.{plan_at}
use Rattle.plan_groups.specs.GroupView.{group_of}
use Rattle.plan_ir.specs.store_model.Items.{parts}

pub returns-then-is_empty : goal.returns-then-is_empty
returns-then-is_empty c =
    ap (map plan_at) c.from_ref.ensures.value
    ∙ one_part c.self.inside.first c.self.inside.others.items (nil_from_length c.self.inside.others.items (grind (arith, c.is_empty.ensures)))
    ∙ ap parts c.self.view_is

pub returns : goal.returns
returns c =
    let some : c.self.inside.others.items ≡ [] → ⊥ = λ none. let zero : length c.self.inside.others.items ≡ 0 = ap length none in grind (arith, c.is_empty.ensures, zero) in
    ap (map plan_at) c.deref.ensures.value
    ∙ kept_parts (group_of c.self.inside.first c.self.inside.others.items) (map plan_at c.self.inside.parts.items) (λ none. some (no_others c.self.inside.others.items none)) c.self.invariant.below
    ∙ ap parts c.self.view_is
