use Rattle.std.proofs.Common.{◌≡◌, ◌++◌, refl, sym, ap, ◌∙◌, subst}
use Rattle.plan_ir.proofs.store_model_laws.FactRowOrder.{after_row}
use Rattle.plan_ir.specs.store_model.FactRows.{facts_of_row, IsRowAfter}
use Rattle.count_tests.proofs.entries.two_rows.Goals as goal

-- 4 stands before 5
pub push_row-requires-2-clause-after : goal.push_row-requires-2-clause-after
push_row-requires-2-clause-after c =
    let first = c.in_ok-first.first in
    let second = c.in_ok-second.second in
    subst (λ facts. IsRowAfter second facts)
    (sym (c.in_ok-push_row.ensures.ok ∙ ap (λ facts. facts ++ facts_of_row first) c.new-rows.ensures))
    (after_row first second (rw (c.in_ok-first.ensures.id, c.in_ok-second.ensures.id) refl))
