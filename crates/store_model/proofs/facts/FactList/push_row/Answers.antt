use Rattle.std.proofs.Common.{◌++◌, ap, ◌∙◌}
use Rattle.store_model.proofs.FactRows.{facts_of-push, rows-push}
use Rattle.store_model.proofs.facts.FactList.push_row.Goals as goal
use Rattle.store_model.specs.FactRows.{facts_of_row}

pub invariant_of-self-2 : goal.invariant_of-self-2
invariant_of-self-2 c = rw c.in_ok-push.ensures.items (rows-push _ _ c.self.invariant c.requires.row (rw c.self.view_is c.requires.after))

pub returns-clause-ok : goal.returns-clause-ok
returns-clause-ok c = rw c.in_ok-push.ensures.items (facts_of-push c.self.inside.rows.items c.args.row ∙ ap (λ fs. fs ++ facts_of_row c.args.row) c.self.view_is)
